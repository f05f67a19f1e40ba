use Rattle.std.proofs.Common.{◌∙◌, ◌*◌, length, ap, ap₂, sym}
use Rattle.std.specs.Int.{w64, to_le_bytes}
use Rattle.chacha20.specs.ChaCha.{chacha_stream, legacy, stream_part}
use Rattle.chacha20.specs.Generator.{of_state_bytes}
use Rattle.chacha20_c.proofs.FillLemmas.{fill-stream}
use Rattle.chacha20_c.proofs.generators.chacha20_rng_fill.Goals as goal

pub returns-then-write_keystream-eq0-clause-bytes :
    goal.returns-then-write_keystream-eq0-clause-bytes
returns-then-write_keystream-eq0-clause-bytes c =
    let g = of_state_bytes c.args.state.now in
    let len = length c.args.output.now in
    let key = c.seed_in-seed.ensures in
    let nonce = c.to_le_bytes-nonce.ensures ∙ ap (to_le_bytes w64) c.stream_in-stream.ensures in
    c.write_keystream.ensures.bytes c.if-write_keystream-eq0.true
    ∙ ap (λ p. stream_part (chacha_stream 10 legacy c.seed_in-seed.result c.to_le_bytes-nonce.result) (4 * p) len)
    c.word_pos_in-position.ensures.value
    ∙ ap₂ (λ k n. stream_part (chacha_stream 10 legacy k n) (4 * g.word_pos) len) key nonce
    ∙ sym (fill-stream 10 len g)
