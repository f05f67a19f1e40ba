use Rattle.std.proofs.Common.{◌∙◌, sym, arith}
use Rattle.std.proofs.Math.Nat.{zero-mod}
use Rattle.chacha_base.proofs.wrapper.StreamCipherCoreWrapperKeyIvInit.new.Goals as goal

-- answered for speed
pub invariant_of-result : goal.invariant_of-result
invariant_of-result g c = record {
  within = omega arith;
  made = c.set_block_pos.ensures.counter ∙ c.from_u64.ensures ∙ sym (zero-mod g.C.Keystream.modulus);
  held = λ some. absurd (omega arith);
}
