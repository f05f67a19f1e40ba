use Rattle.std.proofs.Common.{◌≡◌, arith, ◌/◌, ◌%◌, ◌∙◌, ap, sym, subst}
use Rattle.chacha_base.specs.Buffered.{IsBuffered}
use Rattle.chacha_base.proofs.BufferedLemmas.{at-sought_front, at-sought_part}
use Rattle.chacha_base.proofs.wrapper.StreamCipherCoreWrapper.move_to.Goals.{then-position-gt0, else-position-gt0}
use Rattle.chacha_base.proofs.wrapper.StreamCipherCoreWrapper.move_to.Goals as goal

pub invariant_of-self : goal.invariant_of-self
invariant_of-self g c =
    let block = g.C.Keystream.block_at in
    let fixed = g.C.Keystream.fixed in
    let counter = g.C.StreamCipherCore.counter in
    let modulus = g.C.Keystream.modulus in
    let p = c.args.position in
    let set = c.set_block_pos.new.self in
    let blocks : c.limit.result / 64 ≡ modulus = omega arith in
    let here = c.set_block_pos.ensures.counter ∙ c.from_u64.ensures ∙ ap (λ m. p / 64 % m) blocks in
    elim c.if-position-gt0.branch [
      | then-position-gt0 w ↦
          let made = w.write_keystream_block in
          subst (λ s. IsBuffered modulus (block (fixed s.core)) (counter s.core) s.buffer p) (sym w.self-inside-is)
          (at-sought_part c.requires w.if-position-gt0.true here
          made.ensures.counter (made.ensures.block ∙ ap (λ f. block f (counter set)) (sym made.ensures.fixed)))
      | else-position-gt0 w ↦
          subst (λ s. IsBuffered modulus (block (fixed s.core)) (counter s.core) s.buffer p) (sym w.self-inside-is)
          (at-sought_front c.requires w.if-position-gt0.false here)
    ]
