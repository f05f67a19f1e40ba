use Rattle.std.proofs.Common.{◌≡◌, ℕ, ◌+◌, ◌*◌, ◌/◌, ◌%◌, ◌^◌, map, slice_index, bit_xor, arith, ap, sym, ◌∙◌}
use Rattle.std.specs.List.{range_with_len}
use Rattle.std.proofs.lemmas.List.FromFn.{get_or-map-range_with_len}
use Rattle.chacha20.specs.ChaCha.{keystream}
use Rattle.chacha20.proofs.KeystreamLemmas.{xor_stream-is}
use Rattle.examples.proofs.own_core.ToyStreamCipherCore.apply_blocks_counted.Goals as goal

-- byte i from the front of a block on
stream_byte : (seed counter i : ℕ)
    → keystream (2 ^ 32) (λ c. map (λ j. (seed + 100 * c + j) % 256) (range_with_len 0 64)) (64 * counter + i)
    ≡ (seed + 100 * ((counter + i / 64) % 2 ^ 32) + i % 64) % 256
stream_byte seed counter i =
    let which : (64 * counter + i) / 64 ≡ counter + i / 64 = omega arith in
    let place : (64 * counter + i) % 64 ≡ i % 64 = omega arith in
    rw (which, place)
    (get_or-map-range_with_len (λ j. (seed + 100 * ((counter + i / 64) % 2 ^ 32) + j) % 256) 0 64 (i % 64) (i % 64) 0
    (omega arith) (omega arith))

pub returns-clause-data : goal.returns-clause-data
returns-clause-data c =
    let toy = c.args.self.now in
    xor_stream-is _ _ c.args.data.now c.loop-i.data c.loop-i.auto.data (λ i h.
    c.loop-i.invariant.done i (omega arith) ∙ ap (bit_xor (slice_index c.args.data.now i))
    (sym (stream_byte toy.seed toy.counter i)))
