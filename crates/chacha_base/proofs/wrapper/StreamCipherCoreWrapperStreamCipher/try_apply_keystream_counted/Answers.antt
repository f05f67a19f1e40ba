use Rattle.std.proofs.Common.{length, ap, arith, ◌∙◌, refl}
use Rattle.chacha_base.specs.ChaCha.{keystream, xor_stream}
use Rattle.chacha_base.proofs.BufferedLemmas.{parts}
use Rattle.chacha_base.proofs.CountsLemmas.{grows-rest, grows-bytes}
use Rattle.chacha_base.proofs.KeystreamLemmas.{xor_stream-parts}
use Rattle.chacha_base.proofs.wrapper.StreamCipherCoreWrapperStreamCipher.try_apply_keystream_counted.Goals as goal

-- Three calls, one after another: what is left of the buffered block, whole blocks, a last part.
-- Each goes on where the one before it ended, and keeps the fixed part.
-- The last two calls count. The buffered block was counted when it was made.
-- Their bounds add up to those of an application to so many bytes.
pub returns-in-Ok : goal.returns-in-Ok
returns-in-Ok g c =
    let modulus = g.C.Keystream.modulus in
    let block = g.C.Keystream.block_at in
    let stream = keystream modulus (block c.args.self.now.fixed) in
    let begun = c.apply_begun.new.self in
    let whole = c.apply_whole.new.self in
    let split = c.split_at_mut-front.result in
    let ends = c.split_at_mut-blocks.result in
    let front = c.split_at_mut-front.ensures in
    let back = c.split_at_mut-blocks.ensures in
    let kept = c.apply_begun.ensures.fixed in
    let within = c.in-Ok.ensures.accepted.0 refl in
    record {
      accepted = (λ ok. within, λ fits. refl);
      bytes = xor_stream-parts stream c.args.self.now.position split.0.now split.1.now
          front.value c.apply_begun.ensures.position c.apply_begun.ensures.bytes
          (xor_stream-parts stream begun.position ends.0.now ends.1.now
          back.value c.apply_whole.ensures.position
          (c.apply_whole.ensures.bytes
          ∙ ap (λ f. xor_stream (keystream modulus (block f)) begun.position ends.0.now) kept)
          (c.apply_last.ensures.bytes
          ∙ ap (λ f. xor_stream (keystream modulus (block f)) whole.position ends.1.now)
          (c.apply_whole.ensures.fixed ∙ kept)));
      fixed = c.apply_last.ensures.fixed ∙ c.apply_whole.ensures.fixed ∙ kept;
      position = (parts refl c.begun-begun.ensures front.front_len front.back_len back.front_len back.back_len refl
          c.apply_begun.ensures.position within).end c.apply_whole.ensures.position c.apply_last.ensures.position;
      steps = grows-bytes g.C.ParBlocksSizeUser.PAR_BLOCKS g.C.StreamCipherCore.par_cost g.C.StreamCipherCore.one_cost
          c.args.self.now.position (length split.1.now) c.begun-begun.ensures front.back_len
          (grows-rest g.C.ParBlocksSizeUser.PAR_BLOCKS g.C.StreamCipherCore.par_cost g.C.StreamCipherCore.one_cost
          (length ends.1.now) back.front_len back.back_len c.apply_whole.ensures.steps c.apply_last.ensures.steps);
      refused = tt;
    }

pub returns-in-Err-clause-refused : goal.returns-in-Err-clause-refused
returns-in-Err-clause-refused g c = (refl, refl, refl)

-- answered for speed
pub apply_whole-requires : goal.apply_whole-requires
apply_whole-requires g c =
    let front = c.split_at_mut-front.ensures in
    let blocks = c.split_at_mut-blocks.ensures in
    (parts refl c.begun-begun.ensures front.front_len front.back_len blocks.front_len blocks.back_len refl
    c.apply_begun.ensures.position (c.in-Ok.ensures.accepted.0 refl)).blocks

-- answered for speed
pub apply_last-requires : goal.apply_last-requires
apply_last-requires g c =
    let front = c.split_at_mut-front.ensures in
    let blocks = c.split_at_mut-blocks.ensures in
    (parts refl c.begun-begun.ensures front.front_len front.back_len blocks.front_len blocks.back_len refl
    c.apply_begun.ensures.position (c.in-Ok.ensures.accepted.0 refl)).part c.apply_whole.ensures.position

-- answered for speed
pub apply_begun-requires : goal.apply_begun-requires
apply_begun-requires g c = omega (arith, c.begun-begun.ensures, c.split_at_mut-front.ensures.front_len)
