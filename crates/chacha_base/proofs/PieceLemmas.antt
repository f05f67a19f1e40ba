-- Bytes that are written or combined piece by piece. The loops of the byte stream cite these, and so may loops of
-- callers, as that of `apply_in_pieces`. Read `KeystreamLemmas` first.
use Rattle.std.proofs.Common.{◌≡◌, ℕ, min, ◌+◌, ◌-◌, ◌*◌, ◌/◌, ◌%◌, ◌<◌, ◌≤◌, List, ◌++◌, length, get_or, take, drop, arith, sym, ap, ap₂, ◌∙◌, take-add, drop-drop, length-take-le, get_or-take, get_or-drop}
use Rattle.std.proofs.Math.Nat.{mod-lt, div-mul-le_self}
use Rattle.std.specs.Fork.{slice_chunk}
use Rattle.std.proofs.lemmas.List.{ext_get_or}
use Rattle.std.proofs.lemmas.Nat.{div-add-mod'}
use Rattle.std.proofs.lemmas.Slice.{take-put_mid, drop-put_mid}
use borrow.Rule.Slice.PartMut.{put_mid}
use Rattle.chacha_base.proofs.ListLemmas.{part_long}
use Rattle.chacha_base.proofs.KeystreamLemmas.{xor_stream-append, length-xor_stream, window-xor_stream, stream_part-add}
use Rattle.chacha_base.specs.ChaCha.{xor_stream, stream_part}

-- n bytes more of a stream, written behind those before them
pub stream_part-written : (stream : ℕ → ℕ) (p done n k : ℕ) (buf piece : List ℕ)
    → done ≤ length buf → length piece ≡ n
    → take done buf ≡ stream_part stream p done → piece ≡ stream_part stream (p + done) n
    → take (done + n) (put_mid done k buf piece) ≡ stream_part stream p (done + n)
stream_part-written stream p done n k buf piece inside size before made =
    take-put_mid done k buf piece (done + n) (omega arith) inside
    ∙ ap₂ ◌++◌ before made ∙ sym (stream_part-add stream p done n)

-- n bytes more combined with a stream, written behind those before them
pub xor_stream-written : (stream : ℕ → ℕ) (p done n k : ℕ) (input output piece : List ℕ)
    → done ≤ length input → done ≤ length output → length piece ≡ n
    → take done output ≡ xor_stream stream p (take done input)
    → piece ≡ xor_stream stream (p + done) (take (done + n - done) (drop done input))
    → take (done + n) (put_mid done k output piece) ≡ xor_stream stream p (take (done + n) input)
xor_stream-written stream p done n k input output piece inside room size before made =
    let wide : done + n - done ≡ n = omega arith in
    rw (take-add done n input, xor_stream-append, length-take-le done input inside)
    (take-put_mid done k output piece (done + n) (omega arith) room ∙ ap₂ ◌++◌ before (rw wide at made))

-- what lies behind a piece stays as it was when the piece is written
pub rest-written : {X : Type 0} (done n k : ℕ) (whole buf piece : List X) → k ≤ n → done ≤ length buf → length piece ≡ k
    → drop done buf ≡ drop done whole → drop (done + n) (put_mid done k buf piece) ≡ drop (done + n) whole
rest-written done n k whole buf piece within inside size before =
    drop-put_mid done k buf piece (done + n) (omega arith) inside size
    ∙ sym (drop-drop n done buf) ∙ ap (drop n) before ∙ drop-drop n done whole

-- the next piece: it stays within the bytes, has its length, and fits where all bytes do
pub piece-within : (most len done n : ℕ) → n ≡ min most (len - done) → done ≤ len → done + n ≤ len
piece-within most len done n cut inside = omega arith

pub piece-long : {X : Type 0} (done n : ℕ) (xs : List X) → done + n ≤ length xs
    → length (take (done + n - done) (drop done xs)) ≡ n
piece-long done n xs inside =
    let wide : done + n - done ≡ n = omega arith in part_long done (done + n - done) xs (omega arith) ∙ wide

-- element i of a list is in chunk i / size
in_chunk : (size : ℕ) (xs : List ℕ) (i : ℕ) → 0 < size
    → get_or (slice_chunk xs size (i / size)) (i % size) 0 ≡ get_or xs i 0
in_chunk size xs i some =
    get_or-take size _ (i % size) 0 (mod-lt i some) ∙ get_or-drop (i / size * size) xs (i % size) 0
    ∙ ap (λ k. get_or xs k 0) (div-add-mod' i size)

-- chunks that are combined with a stream, each from its place on, in any order or by several threads
pub xor_stream-chunks : (stream : ℕ → ℕ) (p size : ℕ) (xs ys : List ℕ) → 0 < size → length ys ≡ length xs
    → ((n : ℕ) → n * size < length xs
    → slice_chunk ys size n ≡ xor_stream stream (p + n * size) (slice_chunk xs size n))
    → ys ≡ xor_stream stream p xs
xor_stream-chunks stream p size xs ys some long each =
    let whole = xor_stream stream p xs in
    ext_get_or 0 ys whole (long ∙ sym (length-xor_stream stream p xs)) (λ i inside.
    let front : i / size * size ≤ i = div-mul-le_self i size in
    let same = each (i / size) (omega arith) ∙ sym (window-xor_stream stream p (i / size * size) size xs) in
    sym (in_chunk size ys i some) ∙ ap (λ part. get_or part (i % size) 0) same ∙ in_chunk size whole i some)
