use Rattle.std.proofs.Common.{◌+◌, ap, refl, sym, arith, ◌++◌, ◌∙◌}
use Rattle.chacha_base.specs.ChaCha.{keystream, xor_stream}
use Rattle.chacha_base.proofs.BufferedLemmas.{parts}
use Rattle.chacha_base.proofs.KeystreamLemmas.{xor_stream-parts}
use Rattle.chacha_base.proofs.wrapper.StreamCipherCoreWrapperStreamCipher.try_apply_keystream_b2b.Goals as goal

pub returns-then-input-output-clause-refused : goal.returns-then-input-output-clause-refused
returns-then-input-output-clause-refused g c = (refl, refl)

pub returns-in-Err-clause-refused : goal.returns-in-Err-clause-refused
returns-in-Err-clause-refused g c = (refl, refl)

-- as in `try_apply_keystream_counted`; the first part and the last are copies of the input's
pub returns-in-Ok : goal.returns-in-Ok
returns-in-Ok g c =
    let modulus = g.C.Keystream.modulus in
    let block = g.C.Keystream.block_at in
    let stream = keystream modulus (block c.args.self.now.fixed) in
    let begun = c.apply_begun.new.self in
    let whole = c.apply_whole_between.new.self in
    let front = c.copy_part.new.output in
    let rest = c.split_at.result.1.now in
    let blocks = c.split_at-in-Ok.result.0.now in
    let last = c.copy_part-in-Ok.new.output in
    let ends = c.split_at_mut-front.ensures in
    let back = c.split_at_mut-blocks.ensures in
    let kept = c.apply_begun.ensures.fixed in
    let wide = back.front_len ∙ sym c.split_at-in-Ok.ensures.front_len in
    let within = c.in-Ok.ensures.accepted.0 refl in
    record {
      accepted = (λ ok. (c.if-input-output.false, within), λ fits. refl);
      bytes = xor_stream-parts stream c.args.self.now.position front rest
          (c.split_at.ensures.by_index.0 ∙ ap (λ copied. copied ++ rest) (sym c.copy_part.ensures))
          c.apply_begun.ensures.position c.apply_begun.ensures.bytes
          (xor_stream-parts stream begun.position blocks last
          (c.split_at-in-Ok.ensures.by_index.0 ∙ ap (λ copied. blocks ++ copied) (sym c.copy_part-in-Ok.ensures))
          (c.apply_whole_between.ensures.position ∙ ap (λ n. begun.position + n) wide)
          (c.apply_whole_between.ensures.bytes
          ∙ ap (λ f. xor_stream (keystream modulus (block f)) begun.position blocks) kept)
          (c.apply_last.ensures.bytes
          ∙ ap (λ f. xor_stream (keystream modulus (block f)) whole.position last)
          (c.apply_whole_between.ensures.fixed ∙ kept)));
      fixed = c.apply_last.ensures.fixed ∙ c.apply_whole_between.ensures.fixed ∙ kept;
      position = (parts c.if-input-output.false c.begun-begun.ensures (c.copy_part.auto.output ∙ ends.front_len)
          ends.back_len back.front_len back.back_len c.copy_part-in-Ok.auto.output c.apply_begun.ensures.position
          within).end c.apply_whole_between.ensures.position c.apply_last.ensures.position;
      refused = tt;
    }

-- answered for speed
pub apply_whole_between-requires-clause-whole : goal.apply_whole_between-requires-clause-whole
apply_whole_between-requires-clause-whole g c =
    let front = c.split_at_mut-front.ensures in
    let blocks = c.split_at_mut-blocks.ensures in
    (parts c.if-input-output.false c.begun-begun.ensures (c.copy_part.auto.output ∙ front.front_len) front.back_len
    blocks.front_len blocks.back_len c.copy_part-in-Ok.auto.output c.apply_begun.ensures.position
    (c.in-Ok.ensures.accepted.0 refl)).blocks

-- answered for speed
pub apply_last-requires : goal.apply_last-requires
apply_last-requires g c =
    let front = c.split_at_mut-front.ensures in
    let blocks = c.split_at_mut-blocks.ensures in
    (parts c.if-input-output.false c.begun-begun.ensures (c.copy_part.auto.output ∙ front.front_len) front.back_len
    blocks.front_len blocks.back_len c.copy_part-in-Ok.auto.output c.apply_begun.ensures.position
    (c.in-Ok.ensures.accepted.0 refl)).part c.apply_whole_between.ensures.position

-- answered for speed
pub apply_whole_between-requires-clause-same : goal.apply_whole_between-requires-clause-same
apply_whole_between-requires-clause-same g c =
    c.split_at-in-Ok.ensures.front_len ∙ sym c.split_at_mut-blocks.ensures.front_len

-- answered for speed
pub split_at-requires-in-Ok : goal.split_at-requires-in-Ok
split_at-requires-in-Ok g c =
    omega (arith, c.if-input-output.false, c.split_at.ensures.back_len, c.split_at_mut-front.ensures.back_len)

-- answered for speed
pub copy_part-requires : goal.copy_part-requires
copy_part-requires g c = c.split_at_mut-front.ensures.front_len ∙ sym c.split_at.ensures.front_len

-- answered for speed
pub apply_begun-requires : goal.apply_begun-requires
apply_begun-requires g c =
    omega (arith, c.begun-begun.ensures, c.copy_part.auto.output, c.split_at_mut-front.ensures.front_len)
