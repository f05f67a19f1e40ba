use Rattle.std.proofs.Common.{length, ap, sym, ◌∙◌, arith, refl}
use Rattle.chacha_base.specs.ChaCha.{keystream, xor_stream}
use Rattle.chacha_base.proofs.BufferedLemmas.{none-is_empty, xor_stream-is_empty, at-last, begins-not_empty, xor_stream-front}
use Rattle.chacha_base.proofs.CountsLemmas.{grows-last}
use Rattle.chacha_base.proofs.wrapper.StreamCipherCoreWrapper.apply_last.Goals as goal

pub returns-then-not-is_empty : goal.returns-then-not-is_empty
returns-then-not-is_empty g c =
    let begins = begins-not_empty _ (length c.args.bytes.now) c.is_empty.ensures c.if-not-is_empty.true c.requires.1 in
    record {
      bytes = c.xor_bytes.ensures
          ∙ xor_stream-front c.self.invariant (ap (λ v. v.position) c.self.view_is) c.args.bytes.now
          c.write_block_counted.ensures.block begins (omega (arith, c.requires.0))
          ∙ ap (λ f. xor_stream (keystream g.C.Keystream.modulus (g.C.Keystream.block_at f)) c.args.self.now.position
          c.args.bytes.now) (ap (λ v. v.fixed) c.self.view_is);
      fixed = c.write_block_counted.ensures.fixed ∙ ap (λ v. v.fixed) c.self.view_is;
      position = omega (arith, ap (λ v. v.position) c.self.view_is);
      steps = grows-last g.C.StreamCipherCore.one_cost (length c.args.bytes.now) begins.some
          c.write_block_counted.ensures.steps;
    }

pub invariant_of-self : goal.invariant_of-self
invariant_of-self g c =
    let made = c.write_block_counted in
    let begins = begins-not_empty _ (length c.args.bytes.now) c.is_empty.ensures c.if-not-is_empty.true c.requires.1 in
    at-last c.self.invariant (ap (λ v. v.position) c.self.view_is) begins c.requires.0 c.xor_bytes.auto.output
    made.ensures.counter
    (made.ensures.block
    ∙ ap (λ f. g.C.Keystream.block_at f (g.C.StreamCipherCore.counter c.self.inside.core)) (sym made.ensures.fixed))

-- answered for speed, as the next one
pub returns-else-not-is_empty-clause-bytes : goal.returns-else-not-is_empty-clause-bytes
returns-else-not-is_empty-clause-bytes g c =
    xor_stream-is_empty _ _ c.args.bytes.now c.args.bytes.now refl c.is_empty.ensures c.if-not-is_empty.false

pub returns-else-not-is_empty-clause-position : goal.returns-else-not-is_empty-clause-position
returns-else-not-is_empty-clause-position g c =
    omega (arith, none-is_empty (length c.args.bytes.now) c.is_empty.ensures c.if-not-is_empty.false)
