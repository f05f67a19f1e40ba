use Rattle.std.proofs.Common.{◌≡◌, ℕ, ◌/◌, ◌%◌, ◌^◌, ◌++◌, refl, arith}
use Rattle.std.specs.Int.{w64, w128, to_le_bytes}
use Rattle.poly1305.proofs.accumulator.halves.Goals as goal

-- byte by byte
two-halves : (n : ℕ) → to_le_bytes w64 (n % 2 ^ 64) ++ to_le_bytes w64 (n / 2 ^ 64) ≡ to_le_bytes w128 n
two-halves n =
    let b0 : n % 2 ^ 64 % 256 ≡ n % 256 = omega arith in
    let b1 : n % 2 ^ 64 / 256 ^ 1 % 256 ≡ n / 256 ^ 1 % 256 = omega arith in
    let b2 : n % 2 ^ 64 / 256 ^ 2 % 256 ≡ n / 256 ^ 2 % 256 = omega arith in
    let b3 : n % 2 ^ 64 / 256 ^ 3 % 256 ≡ n / 256 ^ 3 % 256 = omega arith in
    let b4 : n % 2 ^ 64 / 256 ^ 4 % 256 ≡ n / 256 ^ 4 % 256 = omega arith in
    let b5 : n % 2 ^ 64 / 256 ^ 5 % 256 ≡ n / 256 ^ 5 % 256 = omega arith in
    let b6 : n % 2 ^ 64 / 256 ^ 6 % 256 ≡ n / 256 ^ 6 % 256 = omega arith in
    let b7 : n % 2 ^ 64 / 256 ^ 7 % 256 ≡ n / 256 ^ 7 % 256 = omega arith in
    let b9 : n / 2 ^ 64 / 256 ^ 1 % 256 ≡ n / 256 ^ 9 % 256 = omega arith in
    let b10 : n / 2 ^ 64 / 256 ^ 2 % 256 ≡ n / 256 ^ 10 % 256 = omega arith in
    let b11 : n / 2 ^ 64 / 256 ^ 3 % 256 ≡ n / 256 ^ 11 % 256 = omega arith in
    let b12 : n / 2 ^ 64 / 256 ^ 4 % 256 ≡ n / 256 ^ 12 % 256 = omega arith in
    let b13 : n / 2 ^ 64 / 256 ^ 5 % 256 ≡ n / 256 ^ 13 % 256 = omega arith in
    let b14 : n / 2 ^ 64 / 256 ^ 6 % 256 ≡ n / 256 ^ 14 % 256 = omega arith in
    let b15 : n / 2 ^ 64 / 256 ^ 7 % 256 ≡ n / 256 ^ 15 % 256 = omega arith in
    rw (b0, b1, b2, b3, b4, b5, b6, b7, b9, b10, b11, b12, b13, b14, b15) refl

pub returns : goal.returns
returns c =
    rw (
      c.copy_from_slice.ensures.after,
      c.to_le_bytes.ensures,
      c.copy_from_slice-2.ensures.after,
      c.to_le_bytes-2.ensures,
    ) (two-halves c.args.number)
