-- Lists of known length, and elements that are written one after another. All other lemma files and the proofs of
-- loops cite these.
use Rattle.std.proofs.Common.{◌≡◌, inl, inr, Bool, ℕ, zero, suc, ◌+◌, ◌-◌, ◌<◌, ◌≤◌, List, [], ◌∷◌, ◌++◌, length, map, take, drop, slice_index, refl, sym, ap, subst, ◌∙◌, length-append, length-drop, length-set, arith, below_more, set, slice_set, slice_get, Some, nat_lt, if◌then◌else◌, lt-ltb, le-ltb, length-take-le, get_or-take, get_or-set_same, get_or-set_other, append-nil}
use Rattle.std.specs.List.{range_with_len}
use Rattle.std.proofs.lemmas.Bool.{cases_lt}
use Rattle.std.proofs.lemmas.List.{get_or_append_left, get_or-append_right}
use Rattle.std.proofs.lemmas.List.FromFn.{fill_by_all}
use Rattle.std.proofs.lemmas.Option.{slice_get_read, slice_get_within, get_or_from_slice_get}
use borrow.Rule.Slice.PartMut.{put_mid}

-- what holds of a list of n words that is written out, where n is a numeral, holds of each list of n words
abbrev pub words_of : ℕ → List ℕ → List ℕ
words_of n xs = map (slice_index xs) (range_with_len 0 n)

pub by_words : (n : ℕ) (P : List ℕ → Type 0) (xs : List ℕ) → length xs ≡ n → P (words_of n xs) → P xs
by_words n P xs long holds = subst P (sym (fill_by_all (slice_index xs) xs n 0 long (λ k less. refl))) holds

-- what holds of each number below four
pub below_four : (P : ℕ → Type 0) → P 0 → P 1 → P 2 → P 3 → (k : ℕ) → k < 4 → P k
below_four P p q r s zero less = p
below_four P p q r s (suc zero) less = q
below_four P p q r s (suc (suc zero)) less = r
below_four P p q r s (suc (suc (suc zero))) less = s
below_four P p q r s _ less = absurd (omega arith)

-- an element after a write to its place
pub slice_get-set_same : {X : Type 0} (xs : List X) (i : ℕ) (x : X) → i < length xs
    → slice_get (set xs i x) i ≡ Some x
slice_get-set_same xs i x inside =
    slice_get_read _ (length xs) i x (sym (length-set xs i x)) inside (sym (get_or-set_same xs i x x inside))

-- a list that is written from its front on: its first n elements are f 0, f 1 and so on
abbrev pub Written : {X : Type 0} (f : ℕ → X) (n : ℕ) (xs : List X) → Type 0
Written f n xs = (j : ℕ) → j < n → slice_get xs j ≡ Some (f j)

-- one element more
pub one_more : {X : Type 0} (f : ℕ → X) (i : ℕ) (xs : List X) (x : X) → i < length xs → x ≡ f i → Written f i xs
    → Written f (i + 1) (set xs i x)
one_more f i xs x inside made before =
    below_more (λ j. slice_get (set xs i x) j ≡ Some (f j)) i
    (λ j less.
    slice_get_read _ (length xs) j (f j) (sym (length-set xs i x)) (slice_get_within xs j (f j) (before j less))
    (sym (get_or-set_other xs i j x (f j) (omega arith) ∙ get_or_from_slice_get xs j (f j) (f j) (before j less))))
    (slice_get-set_same xs i x inside ∙ ap Some made)

-- the part of k elements from place a on
pub part_long : {X : Type 0} (a k : ℕ) (xs : List X) → a + k ≤ length xs → length (take k (drop a xs)) ≡ k
part_long a k xs inside = length-take-le k (drop a xs) (omega (arith, length-drop a xs))

-- k elements behind the first a
written_behind : {X : Type 0} (f : ℕ → X) (a k : ℕ) (xs ys zs : List X) → length xs ≡ a → k ≤ length ys
    → Written f a xs → Written (λ i. f (a + i)) k ys → Written f (a + k) (xs ++ (ys ++ zs))
written_behind f a k xs ys zs long room before part i inside =
    let x = f i in
    let all : i < length (xs ++ (ys ++ zs)) = simp length-append (omega arith) in
    slice_get_read _ _ i x refl all (sym (elim (cases_lt i a) [
      | inl below ↦ get_or_append_left xs (ys ++ zs) x i (omega arith) ∙ get_or_from_slice_get xs i x x (before i below)
      | inr above ↦
          let place : a + (i - a) ≡ i = omega arith in
          get_or-append_right xs (ys ++ zs) a i x long above ∙ get_or_append_left ys zs x (i - a) (omega arith)
          ∙ get_or_from_slice_get ys (i - a) x x (part (i - a) (omega arith) ∙ ap (λ j. Some (f j)) place)
    ]))

-- k elements more of a list that is written from its front on
pub written_more : {X : Type 0} {k : ℕ} (f : ℕ → X) (a : ℕ) (xs ys : List X) → a ≤ length xs → length ys ≡ k
    → Written f a xs → Written (λ i. f (a + i)) k ys → Written f (a + k) (put_mid a k xs ys)
written_more {k = k} f a xs ys room same before part =
    written_behind f a k (take a xs) ys (drop k (drop a xs)) (length-take-le a xs room) (omega arith)
    (λ j less.
    slice_get_read _ a j (f j) (sym (length-take-le a xs room)) less
    (sym (get_or-take a xs j (f j) less ∙ get_or_from_slice_get xs j (f j) (f j) (before j less))))
    part

-- the same, four elements at a time
pub four_more : {X : Type 0} {k : ℕ} (f : ℕ → X) (a : ℕ) (xs ys : List X) → k ≡ 4 → a ≤ length xs
    → ys ≡ f a ∷ f (a + 1) ∷ f (a + 2) ∷ f (a + 3) ∷ [] → Written f a xs → Written f (a + k) (put_mid a k xs ys)
four_more f a xs ys four room is before =
    let here : a ≡ a + 0 = omega arith in
    written_more f a xs ys room (ap length is ∙ sym four) before (λ i less.
    ap (λ l. slice_get l i) is
    ∙ below_four (λ j. slice_get (f a ∷ f (a + 1) ∷ f (a + 2) ∷ f (a + 3) ∷ []) j ≡ Some (f (a + j)))
    (ap (λ j. Some (f j)) here) refl refl refl i (omega (arith, less, four)))

-- two lists, of n and m elements, one after the other
pub parts_written : {X Y : Type 0} (f : Y → X) (n m : ℕ) (xs ys : List X) (p q : ℕ → Y) → length xs ≡ n
    → length ys ≡ m → Written (λ j. f (p j)) n xs → Written (λ j. f (q j)) m ys
    → Written (λ i. f (if nat_lt i n then p i else q (i - n))) (n + m) (xs ++ ys)
parts_written f n m xs ys p q lx ly first second =
    let either = λ (b : Bool) (j : ℕ). Some (f (if b then p j else q (j - n))) in
    subst (Written (λ i. f (if nat_lt i n then p i else q (i - n))) (n + m)) (ap (λ t. xs ++ t) (append-nil ys))
    (written_behind (λ i. f (if nat_lt i n then p i else q (i - n))) n m xs ys [] lx (omega arith)
    (λ j less. first j less ∙ ap (λ b. either b j) (sym (lt-ltb j n less)))
    (λ j less.
    let place : j ≡ n + j - n = omega arith in
    second j less ∙ ap (λ k. Some (f (q k))) place
    ∙ ap (λ b. either b (n + j)) (sym (le-ltb (n + j) n (omega arith)))))

-- four lists, one after another
pub four_joined : {X : Type 0} {a b c d p q r s : List X} → a ≡ p → b ≡ q → c ≡ r → d ≡ s
    → a ++ b ++ c ++ d ≡ p ++ q ++ r ++ s
four_joined ea eb ec ed = cc

-- four elements, one by one
pub four_listed : {X : Type 0} {a b c d p q r s : X} → a ≡ p → b ≡ q → c ≡ r → d ≡ s
    → a ∷ b ∷ c ∷ d ∷ [] ≡ p ∷ q ∷ r ∷ s ∷ []
four_listed ea eb ec ed = cc

-- four elements that are written one after another into a list of four
pub four_set : {X : Type 0} {a b c d p q r s : X} (xs : List X) → length xs ≡ 4 → a ≡ p → b ≡ q → c ≡ r → d ≡ s
    → slice_set (slice_set (slice_set (slice_set xs 0 a) 1 b) 2 c) 3 d ≡ p ∷ q ∷ r ∷ s ∷ []
four_set (w ∷ x ∷ y ∷ z ∷ []) four ea eb ec ed = four_listed ea eb ec ed
four_set [] four ea eb ec ed = absurd (omega (arith, four))
four_set (w ∷ []) four ea eb ec ed = absurd (omega (arith, four))
four_set (w ∷ x ∷ []) four ea eb ec ed = absurd (omega (arith, four))
four_set (w ∷ x ∷ y ∷ []) four ea eb ec ed = absurd (omega (arith, four))
four_set (w ∷ x ∷ y ∷ z ∷ more ∷ xs) four ea eb ec ed = absurd (omega (arith, four))
