use Rattle.std.proofs.Common.{length, ap, ap₂, ◌∙◌, arith}
use Rattle.chacha_base.specs.ChaCha.{keystream, xor_stream}
use Rattle.chacha_base.proofs.BufferedLemmas.{none-is_empty, xor_stream-is_empty, at-whole, counter-at_front, begins-not_empty}
use Rattle.chacha_base.proofs.wrapper.StreamCipherCoreWrapper.apply_whole_between.Goals as goal

pub returns-then-not-is_empty : goal.returns-then-not-is_empty
returns-then-not-is_empty g c =
    let begins = begins-not_empty _ (length c.args.blocks.now) c.is_empty.ensures c.if-not-is_empty.true
    c.requires.whole.1 in
    record {
      bytes = c.apply_blocks_between_counted.ensures.output
          ∙ ap₂ (λ f p. xor_stream (keystream g.C.Keystream.modulus (g.C.Keystream.block_at f)) p c.args.input.now)
          (ap (λ v. v.fixed) c.self.view_is)
          (counter-at_front c.self.invariant (ap (λ v. v.position) c.self.view_is) begins);
      fixed = c.apply_blocks_between_counted.ensures.fixed ∙ ap (λ v. v.fixed) c.self.view_is;
      position = omega (arith, ap (λ v. v.position) c.self.view_is);
    }

pub invariant_of-self : goal.invariant_of-self
invariant_of-self g c =
    let begins = begins-not_empty _ (length c.args.blocks.now) c.is_empty.ensures c.if-not-is_empty.true
    c.requires.whole.1 in
    at-whole c.self.invariant (ap (λ v. v.position) c.self.view_is) begins c.requires.whole.0
    c.apply_blocks_between_counted.auto.output c.apply_blocks_between_counted.ensures.counter

-- answered for speed, as the next one
pub returns-else-not-is_empty-clause-bytes : goal.returns-else-not-is_empty-clause-bytes
returns-else-not-is_empty-clause-bytes g c =
    xor_stream-is_empty _ _ c.args.input.now c.args.blocks.now c.requires.same c.is_empty.ensures
    c.if-not-is_empty.false

pub returns-else-not-is_empty-clause-position : goal.returns-else-not-is_empty-clause-position
returns-else-not-is_empty-clause-position g c =
    omega (arith, none-is_empty (length c.args.blocks.now) c.is_empty.ensures c.if-not-is_empty.false)
