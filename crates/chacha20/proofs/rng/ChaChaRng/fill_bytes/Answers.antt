use Rattle.std.proofs.Common.{◌≡◌, ℕ, List, Bool, false, ◌<◌, ◌≤◌, ◌+◌, ◌*◌, ◌/◌, ◌∙◌, length, take, sym, ap, arith, ◌==◌}
use Rattle.std.proofs.lemmas.Bool.Decides.{Decides-eqb}
use Rattle.std.proofs.lemmas.Grind.{common_steps}
use Rattle.std.proofs.lemmas.List.{append-nil, nil_from_length, length-take-le}
use Rattle.chacha20.specs.Generator.{fill}
use Rattle.chacha20.proofs.ReadLemmas.{filled-over}
use Rattle.chacha20.proofs.rng.ChaChaRng.fill_bytes.Goals as goal

-- of a slice of len bytes, the r behind whole words
some_left : (r : ℕ) (empty : Bool) → empty ≡ (r == 0) → empty ≡ false → 0 < r
some_left r empty test part = grind (arith, common_steps)

part_inside : (len r : ℕ) (word : List ℕ) → r + len / 4 * 4 ≡ len → length word ≡ 4 → r ≤ length word
part_inside len r word rest four = omega arith

part_fits : (len r : ℕ) (word : List ℕ) → r + len / 4 * 4 ≡ len → length word ≡ 4 → r ≡ length (take r word)
part_fits len r word rest four = sym (length-take-le r word (part_inside len r word rest four))

pub slice_bounds-word-end : goal.slice_bounds-word-end
slice_bounds-word-end g c =
    part_inside _ _ c.to_le_bytes-word.result c.split_at_mut-words.ensures.back_len
    (ap length c.to_le_bytes-word.ensures)

pub slice_bounds-copy_from_slice-end : goal.slice_bounds-copy_from_slice-end
slice_bounds-copy_from_slice-end g c =
    part_fits _ _ c.to_le_bytes-word.result c.split_at_mut-words.ensures.back_len (ap length c.to_le_bytes-word.ensures)

pub copy_from_slice-requires : goal.copy_from_slice-requires
copy_from_slice-requires g c =
    part_fits _ _ c.to_le_bytes-word.result c.split_at_mut-words.ensures.back_len (ap length c.to_le_bytes-word.ensures)

pub returns-then-not-is_empty-clause-value : goal.returns-then-not-is_empty-clause-value
returns-then-not-is_empty-clause-value g c =
    let split = c.split_at_mut-words.ensures in
    let words = length c.split_at_mut-words.result.0.now in
    let r = length c.split_at_mut-words.result.1.now in
    let some = some_left r _ c.is_empty.ensures c.if-not-is_empty.true in
    let whole : words ≡ 4 * (words / 4) = omega (arith, split.front_len) in
    let all : 4 * (words / 4) + r ≡ length c.args.dst.now = omega (arith, split.front_len, split.back_len) in
    let fills = fill g.R.Rounds.COUNT c.args.self.now in
    filled-over _ (words / 4) r c.args.self.now (omega (arith, split.back_len, some))
    (c.fill_words.ensures.value ∙ ap fills whole) c.next_u32.ensures.value
    (c.copy_from_slice.ensures.after ∙ ap (take r) c.to_le_bytes-word.ensures)
    ∙ ap fills all

pub returns-else-not-is_empty-clause-value : goal.returns-else-not-is_empty-clause-value
returns-else-not-is_empty-clause-value g c =
    let split = c.split_at_mut-words.ensures in
    let last = c.split_at_mut-words.result.1.now in
    let none = (Decides-eqb (length last) 0).0 (sym c.is_empty.ensures ∙ c.if-not-is_empty.false) in
    let all : length c.split_at_mut-words.result.0.now ≡ length c.args.dst.now =
    omega (arith, split.front_len, split.back_len, none) in
    rw (nil_from_length last none, append-nil c.fill_words.new.dst) (c.fill_words.ensures.value
    ∙ ap (fill g.R.Rounds.COUNT c.args.self.now) all)
