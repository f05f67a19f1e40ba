-- A window that is filled chunk by chunk.
use Rattle.std.proofs.Common.{◌≡◌, ◌<◌, ◌≤◌, ◌+◌, ◌-◌, ◌/◌, ◌%◌, ◌∙◌, ℕ, List, ◌++◌, length, take, drop, arith, sym, ap, subst, append-nil, inl, inr, length-take-le, length-append, length-drop, drop_at, drop-drop}
use Rattle.std.proofs.lemmas.Bool.{cases_lt}
use Rattle.std.proofs.lemmas.List.{drop_all, take_rest}
use borrow.Rule.Slice.PartMut.{put_mid, put_same}
use Rattle.sealed_file.specs.Ranges.{File, HasRange, joined, before, count, StopsAt}
use Rattle.sealed_file.proofs.BufferLemmas.{take-put_mid}

put-rest : (k : ℕ) (xs ys : List ℕ) → put_mid k (length xs - k) xs ys ≡ take k xs ++ ys
put-rest k xs ys =
    ap (λ zs. take k xs ++ (ys ++ zs)) (drop_all (length xs - k) (drop k xs) (omega (arith, length-drop k xs)))
    ∙ ap (λ zs. take k xs ++ zs) (append-nil ys)

-- so far, k bytes of a text of t, from byte `start` on, are in the window, which was `old`
pub record Filled (f : File) (t start k : ℕ) (old new : List ℕ) : Type 0 where
  pub fits : start + length old ≤ t
  pub within : k ≤ length old
  pub same : length new ≡ length old
  pub right : HasRange f start (take k new)
  pub rest : drop k new ≡ drop k old
  pub border : 0 < k → k < length old → (start + k) % 65536 ≡ 0

-- where a read ends that doesn't fill the window
border-is : (p n w t : ℕ) → n ≡ count t p w → p + w ≤ t → n < w → (p + n) % 65536 ≡ 0
border-is p n w t is within less = omega (arith, is, within, less)

-- a read isn't empty
pub some-read : (p n w t : ℕ) → n ≡ count t p w → p + w ≤ t → 0 < w → 0 < n
some-read p n w t is within room = omega (arith, is, within, room)

-- one more read
pub filled-more : (f : File) (t start k n : ℕ) (old mid tail : List ℕ) → Filled f t start k old mid
    → (let room = take (length mid - k) (drop k mid) in length tail ≡ length room → drop n tail ≡ drop n room
    → HasRange f (start + k) (take n tail) → n ≡ count t (start + k) (length room)
    → Filled f t start (k + n) old (put_mid k (length mid - k) mid tail))
filled-more f t start k n old mid tail so_far size kept more is =
    let room : take (length mid - k) (drop k mid) ≡ drop k mid = take_rest mid k in
    let left : length tail ≡ length old - k =
    size ∙ ap length room ∙ length-drop k mid ∙ ap (λ l. l - k) so_far.same in
    let is' : n ≡ count t (start + k) (length old - k) = is ∙ ap (count t (start + k)) (sym size ∙ left) in
    let most : n ≤ length tail = omega (arith, is', left) in
    let front = take k mid in
    let wide : length front ≡ k = length-take-le k mid (omega (arith, so_far.within, so_far.same)) in
    let new : put_mid k (length mid - k) mid tail ≡ front ++ tail = put-rest k mid tail in
    record {
      fits = so_far.fits;
      within = omega (arith, most, left, so_far.within);
      same = ap length new ∙ length-append front tail ∙ omega (arith, wide, left, so_far.within);
      right = subst (HasRange f start)
          (sym (take-put_mid k n (length mid - k) mid tail (omega (arith, so_far.within, so_far.same)) most))
          (joined start front (take n tail) so_far.right
          (subst (λ l. HasRange f (start + l) (take n tail)) (sym wide) more));
      rest = ap (drop (k + n)) new ∙ sym (drop-drop n k (front ++ tail)) ∙ ap (drop n) (drop_at front tail k wide)
          ∙ kept ∙ ap (drop n) (room ∙ so_far.rest) ∙ drop-drop n k old;
      border = λ some less.
          let at = border-is (start + k) n (length old - k) t is' (omega (arith, so_far.fits, so_far.within))
          (omega (arith, less)) in
          omega (arith, at);
    }

-- a read that fails
pub stops-at : (f : File) (t start k : ℕ) (old mid tail : List ℕ) → Filled f t start k old mid → k < length old
    → tail ≡ take (length mid - k) (drop k mid)
    → StopsAt f start ((start + k) / 65536) old (put_mid k (length mid - k) mid tail)
unfolding StopsAt
stops-at f t start k old mid tail filled room kept =
    let i = (start + k) / 65536 in
    let end : k ≡ before start i = elim (cases_lt 0 k) [
      | inl some ↦ omega (arith, filled.border some room)
      | inr none ↦ omega (arith, none)
    ] in
    subst (StopsAt f start i old)
    (sym (ap (put_mid k (length mid - k) mid) kept ∙ put_same k (length mid - k) mid))
    (subst (λ n. (start / 65536 ≤ i) × (n < length old) × HasRange f start (take n mid) × (drop n mid ≡ drop n old)) end
    (omega arith, room, filled.right, filled.rest))
