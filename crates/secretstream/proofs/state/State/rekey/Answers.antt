use Rattle.std.proofs.Common.{◌∙◌, ◌++◌, List, ℕ, take, drop, arith, ap, ap₂, sym, length-drop, length-take-le, take_all}
use Rattle.chacha20.specs.ChaCha.{xor_stream}
use Rattle.secretstream.specs.Stream.{State, stream_of}
use Rattle.secretstream.proofs.state.State.rekey.Goals as goal

pub slice_bounds-copy_from_slice-end-2 : goal.slice_bounds-copy_from_slice-end-2
slice_bounds-copy_from_slice-end-2 g c =
    sym (length-take-le 32 c.apply_keystream.new.buf
    (omega (arith, c.apply_keystream.auto.buf, c.joined-bytes.ensures.long)))

pub copy_from_slice-requires : goal.copy_from_slice-requires
copy_from_slice-requires g c = slice_bounds-copy_from_slice-end-2 g c

pub returns : goal.returns
returns g c =
    let now = c.apply_keystream.new.buf in
    let rest = take_all 8 (drop 32 now)
    (omega (arith, length-drop 32 now, c.apply_keystream.auto.buf, c.joined-bytes.ensures.long)) in
    let combined = c.apply_keystream.ensures.bytes
    ∙ ap₂ (λ (s : ℕ → ℕ) p. xor_stream s p c.joined-bytes.result) c.cipher.ensures.stream c.cipher.ensures.start
    ∙ ap (xor_stream (stream_of c.args.self.now) 0)
    (c.joined-bytes.ensures.bytes ∙ ap (λ (s : State). s.key ++ s.inner) c.self.view_is) in
    ap₂ (λ (k i : List ℕ). record { key = k; counter = 1; inner = i })
    (c.copy_from_slice.ensures.after ∙ ap (take 32) combined)
    (c.copy_from_slice-2.ensures.after ∙ rest ∙ ap (drop 32) combined)
