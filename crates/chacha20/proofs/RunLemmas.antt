-- Runs of calls whose answers are written one after another, and the laws of runs: seeking back, and cutting
-- anywhere. The proofs of `run_cipher`, `call_cipher` and `run_rng` cite these. Read `Runs` first.
use Rattle.std.proofs.Common.{inl, inr, ◌≡◌, ℕ, ◌+◌, ◌-◌, ◌≤◌, List, [], ◌∷◌, ◌++◌, length, take, drop, arith, refl, sym, ap, subst, ◌∙◌, append_assoc, append-nil, if◌then◌else◌, sum, nat_le, ◌==◌, ◌&&◌, ◌^◌, Bool, true, false, ℤ, pos, negsuc, ◌↔◌, Result, Ok, Err, Some, IsOk, OnOk, OnErr, IsSomeAnd, IfSome, drop-drop, take-add, Decides, to_z-of_z, to_z, of_z, w32}
use Rattle.std.specs.List.{AllByRecursion}
use Rattle.std.proofs.lemmas.Slice.{take-put_mid, drop-put_mid, between-put_mid}
use borrow.Rule.Slice.PartMut.{put_same, same_len_mid, take_put}
use Rattle.std.proofs.lemmas.List.Sums.{sum_by-cons}
use Rattle.std.proofs.lemmas.Bool.{le-leb, leb-true, cases_Bool, false≢true}
use Rattle.std.proofs.lemmas.Bool.Decides.{Decides-and, Decides-eqb, Decides-like}
use Rattle.chacha_base.proofs.ListLemmas.{part_long}
use Rattle.chacha_base.specs.Cipher.{Cipher, signed_position}
use Rattle.chacha_base.specs.ChaCha.{xor_stream}
use Rattle.chacha_base.proofs.KeystreamLemmas.{xor_stream-append, length-xor_stream, xor_stream-xor_stream}
use Rattle.chacha20.proofs.StdLemmas.{on_ok_given}
use Rattle.chacha20.specs.declared.runs.CipherCall.{CipherCall}
use Rattle.chacha20.specs.declared.runs.CipherCall.TheVariants.{Apply, Seek, SeekI32}
use Rattle.chacha20.specs.declared.runs.CipherAnswer.{CipherAnswer}
use Rattle.chacha20.specs.declared.runs.CipherAnswer.TheVariants.{Done, Refused, Position, PositionI32, Overflow}
use Rattle.chacha20.specs.Runs.{Setting, CipherOutcome, part, put, done_if, cipher_outcome, cipher_run, InSlices, pieces}

-- a range put in: it is read again, what lies behind it stays, and then the same range is put in or the next one
module _ (at len : ℕ) (ys xs : List ℕ) (inside : at ≤ length xs) (size : length ys ≡ len) where
  part-put : part at len (put at len ys xs) ≡ ys
  part-put =
      let width : at + len - at ≡ len = omega arith in
      rw width at (between-put_mid at len xs ys (at + len) inside (omega arith))

  drop-put : drop (at + len) (put at len ys xs) ≡ drop (at + len) xs
  drop-put = drop-put_mid at len xs ys (at + len) (omega arith) inside size

  put-put : (zs : List ℕ) → put at len zs (put at len ys xs) ≡ put at len zs xs
  put-put zs =
      rw (take_put at len xs ys inside, drop-drop len at (put at len ys xs), drop-put, drop-drop len at xs)

  put-next : (more : ℕ) (zs : List ℕ) → put (at + len) more zs (put at len ys xs) ≡ put at (len + more) (ys ++ zs) xs
  put-next more zs =
      let front = take-put_mid at len xs ys (at + len) (omega arith) inside in
      rw (front, drop-put, ← drop-drop len at xs, drop-drop more len (drop at xs)) (simp append_assoc)

-- what a call on c and old bytes that may be refused leaves: if its result is `Ok`, position p and the data `after`
pub record Leaves {E : Type 0} (r : Result (Unit {0}) E) (c : Cipher) (old : List ℕ) (p : ℕ) (after : List ℕ)
    (left : CipherOutcome) : Type 0 where
  pub done : OnOk r (left ≡ record { answer = Done; cipher = record c { position = p }; bytes = after })
  pub refused : OnErr r (left ≡ record { answer = Refused; cipher = c; bytes = old })

-- that is the outcome of a call that is accepted where the test says yes
outcome-is : {E P : Type 0} {r : Result (Unit {0}) E} {c : Cipher} {bytes : List ℕ} {p : ℕ} {after : List ℕ}
    {left : CipherOutcome} (test : Bool) → Decides test P → IsOk r ↔ P → Leaves r c bytes p after left
    → done_if test c bytes p after ≡ left
outcome-is {r = Ok x} true tells accepted is = sym is.done
outcome-is {r = Ok x} false tells accepted is = absurd (false≢true (tells.1 (accepted.0 refl)))
outcome-is {r = Err e} true tells accepted is = absurd (false≢true (accepted.1 (tells.0 refl)))
outcome-is {r = Err e} false tells accepted is = sym is.refused

pub le-outcome-is : {E : Type 0} {r : Result (Unit {0}) E} {c : Cipher} {old : List ℕ} {p : ℕ} {after : List ℕ}
    {left : CipherOutcome} (m n : ℕ) → IsOk r ↔ (m ≤ n) → Leaves r c old p after left
    → done_if (nat_le m n) c old p after ≡ left
le-outcome-is m n = outcome-is _ (leb-true m n, le-leb m n)

-- a call that answers and changes nothing
abbrev answered : CipherAnswer → Cipher → List ℕ → CipherOutcome
answered a c old = record { answer = a; cipher = c; bytes = old }

-- what the contracts of the private `answer`, of a seek and of a call that writes say, of a cipher of any type that is
-- seen as a `Cipher`
abbrev pub Answers : {E : Type 0} → Result (Unit {0}) E → CipherAnswer → Type 0
Answers r a = record { done : OnOk r (a ≡ Done); refused : OnErr r (a ≡ Refused) }

abbrev pub Seeks : {E S : Type 0} → Result (Unit {0}) E → Type 0 → Type 0 → (S → Cipher) → S → S → Type 0
Seeks r Accepted There see x y = record {
  accepted : IsOk r ↔ Accepted;
  fixed : OnOk r ((see y).fixed ≡ (see x).fixed);
  position : OnOk r There;
  refused : OnErr r (y ≡ x);
}

abbrev pub Writes : {E S : Type 0} → Result (Unit {0}) E → Type 0 → Type 0 → (S → Cipher) → S → S → List ℕ → List ℕ
    → List ℕ → Type 0
Writes r Accepted There see x y old new made = record {
  accepted : IsOk r ↔ Accepted;
  bytes : OnOk r (new ≡ made);
  fixed : OnOk r ((see y).fixed ≡ (see x).fixed);
  position : OnOk r There;
  refused : OnErr r ((new ≡ old) × (y ≡ x));
}

-- what a check, a seek and a write leave
pub check-leaves : {E : Type 0} {r : Result (Unit {0}) E} {c : Cipher} {old : List ℕ} {a : CipherAnswer}
    → Answers r a → Leaves r c old c.position old (answered a c old)
check-leaves {r = Ok x} {c} {old} told = record { done = ap (λ a. answered a c old) told.done; refused = tt }
check-leaves {r = Err e} {c} {old} told = record { done = tt; refused = ap (λ a. answered a c old) told.refused }

pub seek-leaves : {E S : Type 0} {r : Result (Unit {0}) E} {x y : S} {old : List ℕ} {p : ℕ} {a : CipherAnswer}
    (see : S → Cipher) (Accepted : Type 0) → Seeks r Accepted ((see y).position ≡ p) see x y → Answers r a
    → Leaves r (see x) old p old (answered a (see y) old)
seek-leaves {r = Ok u} {old = old} see Accepted said told = record {
  done = λ i. answered (told.done i) (record { fixed = said.fixed i; position = said.position i }) old;
  refused = tt;
}
seek-leaves {r = Err e} {old = old} see Accepted said told =
    record { done = tt; refused = λ i. answered (told.refused i) (see (said.refused i)) old }

put-leaves : {E S : Type 0} {r : Result (Unit {0}) E} {x y : S} {old : List ℕ} {a : CipherAnswer} {p : ℕ}
    (see : S → Cipher) (at len : ℕ) (new made : List ℕ) (Accepted : Type 0)
    → Writes r Accepted ((see y).position ≡ p) see x y (part at len old) new made → Answers r a
    → Leaves r (see x) old p (put at len made old) (record { answer = a; cipher = see y; bytes = put at len new old })
put-leaves {r = Ok u} {old = old} see at len new made Accepted said told =
    record {
      done = λ i. record {
        answer = told.done i;
        cipher = record { fixed = said.fixed i; position = said.position i };
        bytes = put at len (said.bytes i) old;
      };
      refused = tt;
    }
put-leaves {r = Err e} {old = old} see at len new made Accepted said told =
    let same = ap (λ ys. put at len ys old) said.refused.0 ∙ put_same at len old in
    record {
      done = tt;
      refused = λ i. record { answer = told.refused i; cipher = see (said.refused.1 i); bytes = same i };
    }

pub seek_i32-is : {E S : Type 0} {y : S} {a : CipherAnswer} (s : Setting) (see : S → Cipher) (x : S) (old : List ℕ)
    (z : ℤ) (r : Result (Unit {0}) E)
    → Seeks r (IsSomeAnd (signed_position z) (λ p. p ≤ s.limit))
    (IfSome (signed_position z) (λ p. (see y).position ≡ p)) see x y
    → Answers r a → cipher_outcome s (see x) old (SeekI32 z) ≡ answered a (see y) old
seek_i32-is s see x old (pos p) r said told = le-outcome-is p s.limit said.accepted (seek-leaves see _ said told)
seek_i32-is s see x old (negsuc p) (Ok u) said told = absurd (said.accepted.0 refl)
seek_i32-is s see x old (negsuc p) (Err e) said told = λ i. answered (sym told.refused i) (see (sym said.refused i)) old

both-Decides : (a b p limit : ℕ) → Decides ((a == b) && nat_le (p + b) limit) ((a ≡ b) × (p + a ≤ limit))
both-Decides a b p limit =
    Decides-like _ (λ both. (both.0, omega (arith, both.0, both.1))) (λ both. (both.0, omega (arith, both.0, both.1)))
    (Decides-and _ _ (Decides-eqb a b) (leb-true (p + b) limit, le-leb (p + b) limit))

-- the outcome of a write of data[at..at + len], which has at + len - at bytes: `made` makes them of the old ones and
-- their number
pub wrote-is : {E S : Type 0} {y : S} {a : CipherAnswer} (r : Result (Unit {0}) E) (see : S → Cipher) (x : S)
    (old new : List ℕ) (at len limit : ℕ) (made : List ℕ → ℕ → List ℕ) → at + len ≤ length old
    → (let bytes = part at (at + len - at) old in
    let end = (see x).position + length bytes in
    Writes r (end ≤ limit) ((see y).position ≡ end) see x y bytes new (made bytes (length bytes)))
    → Answers r a
    → (let end = (see x).position + len in
    done_if (nat_le end limit) (see x) old end (put at len (made (part at len old) len) old)
    ≡ record { answer = a; cipher = see y; bytes = put at (at + len - at) new old })
wrote-is r see x old new at len limit made inside given told =
    let width : at + len - at ≡ len = omega arith in
    let said = rw (width, part_long at len old inside) at given in
    rw width (le-outcome-is _ _ said.accepted (put-leaves see at len _ _ _ said told))

-- the same of a write that also reads input[from..from + from_len]
pub wrote_from-is : {E S : Type 0} {y : S} {a : CipherAnswer} (r : Result (Unit {0}) E) (see : S → Cipher) (x : S)
    (old new input : List ℕ) (from from_len at len limit : ℕ) (stream : ℕ → ℕ)
    → (from + from_len ≤ length input) × (at + len ≤ length old)
    → (let bytes = part at (at + len - at) old in
    let read = part from (from + from_len - from) input in
    let start = (see x).position in
    Writes r ((length read ≡ length bytes) × (start + length read ≤ limit)) ((see y).position ≡ start + length read)
    see x y bytes new (xor_stream stream start read))
    → Answers r a
    → (let start = (see x).position in
    done_if ((from_len == len) && nat_le (start + len) limit) (see x) old (start + len)
    (put at len (xor_stream stream start (part from from_len input)) old)
    ≡ record { answer = a; cipher = see y; bytes = put at (at + len - at) new old })
wrote_from-is r see x old new input from from_len at len limit stream inside given told =
    let width : at + len - at ≡ len = omega arith in
    let from_width : from + from_len - from ≡ from_len = omega arith in
    let size = part_long at len old inside.1 in
    let from_size = part_long from from_len input inside.0 in
    let said = rw (width, from_width, size, from_size) at given in
    let there = λ (ok : IsOk r). ap (λ n. (see x).position + n) (said.accepted.0 ok).0 in
    rw width (outcome-is _ (both-Decides from_len len _ _) said.accepted
    (put-leaves see at len _ _ _ (record {
      accepted = said.accepted;
      bytes = said.bytes;
      fixed = said.fixed;
      position = on_ok_given _ (λ ok place. place ∙ there ok) said.position;
      refused = said.refused;
    }) told))

-- a position that is told
pub pos-is : {c : Cipher} {old : List ℕ} (p : ℕ) → Some p ≡ Some c.position
    → answered (Position c.position) c old ≡ answered (Position p) c old
pos-is {c} {old} p is =
    let same : c.position ≡ p = cc in rw same

pub pos_i32-is : {c : Cipher} {old : List ℕ} (z : ℤ) → c.position ≤ 2 ^ 31 - 1 → signed_position z ≡ Some c.position
    → answered (if nat_le c.position (2 ^ 31 - 1) then PositionI32 (pos c.position) else Overflow) c old
    ≡ answered (PositionI32 (to_z w32 (of_z w32 z))) c old
pos_i32-is {c} {old} (pos p) fits is =
    let same : c.position ≡ p = cc in
    let number : pos c.position ≡ to_z w32 (of_z w32 (pos p)) =
    ap pos same ∙ sym (to_z-of_z {w = w32} {z = pos p} (record { sfits = omega arith })) in
    rw (le-leb c.position (2 ^ 31 - 1) fits) (ap (λ (z : ℤ). answered (PositionI32 z) c old) number)
pos_i32-is (negsuc p) fits is = absurd (cc)

-- answers that are written, and then a run of what is left
abbrev pub behind : {A S : Type 0} → List A → List A × S × List ℕ → List A × S × List ℕ
behind front left = (front ++ left.0, left.1, left.2)

-- one call more: `now` and `next` run what is left before it and after it
pub run-more : {K A S : Type 0} {whole : List A × S × List ℕ} {k : K} {a : A} {calls left : List K} {longer : List A}
    (now next : List K → List A × S × List ℕ) (front : List A) → whole ≡ behind front (now calls) → calls ≡ k ∷ left
    → now (k ∷ left) ≡ behind (a ∷ []) (next left) → longer ≡ front ++ (a ∷ []) → whole ≡ behind longer (next left)
run-more {a = a} {left = left} now next front ran these made longer =
    rw (ran, these, made, longer, append_assoc front (a ∷ []) (next left).0)

-- the end of a run: `rest` runs what is left, which is nothing
pub run-all : {K A S : Type 0} {whole : List A × S × List ℕ} {end : S} {new : List ℕ} {calls : List K}
    {answers : List A} (rest : List K → List A × S × List ℕ) (front : List A) → rest [] ≡ ([], end, new)
    → whole ≡ behind front (rest calls) → calls ≡ [] → front ≡ answers → (answers, end, new) ≡ whole
run-all rest front none ran all same = rw (ran, all, none, append-nil front, same)

-- what an application that is accepted leaves
abbrev applied : Setting → Cipher → List ℕ → ℕ → ℕ → CipherOutcome
applied s c bytes at len = record {
  answer = Done;
  cipher = record c { position = c.position + len };
  bytes = put at len (xor_stream (s.stream c.fixed) c.position (part at len bytes)) bytes;
}

module _ (s : Setting) (c : Cipher) (bytes : List ℕ) (at len : ℕ) where
  apply-is : c.position + len ≤ s.limit → cipher_outcome s c bytes (Apply at len) ≡ applied s c bytes at len
  apply-is fits = rw (le-leb (c.position + len) s.limit fits) refl

  -- an application that was answered by `Done`
  apply-fits : (cipher_outcome s c bytes (Apply at len)).answer ≡ Done → c.position + len ≤ s.limit
  apply-fits done =
      elim (cases_Bool (nat_le (c.position + len) s.limit)) [
        | inl within ↦ leb-true (c.position + len) s.limit within
        | inr past ↦ let refused : Refused ≡ Done = rw past at done in cc
      ]

  length-applied : length (applied s c bytes at len).bytes ≡ length bytes
  length-applied = same_len_mid at len bytes _ (length-xor_stream (s.stream c.fixed) c.position (part at len bytes))

  -- an application and another of the range behind it, and an application and another of the same range
  applied-more : (more : ℕ) → at + (len + more) ≤ length bytes
      → (let first = applied s c bytes at len in applied s first.cipher first.bytes (at + len) more)
      ≡ applied s c bytes at (len + more)
  applied-more more inside =
      let stream = s.stream c.fixed in
      let p = c.position in
      let old = part at len bytes in
      let rest = part (at + len) more bytes in
      let ys = xor_stream stream p old in
      let long = part_long at len bytes (omega arith) in
      let size = length-xor_stream stream p old ∙ long in
      let place : p + len + more ≡ p + (len + more) = omega arith in
      let behind = ap (take more) (drop-put at len ys bytes (omega arith) size) in
      let next = put-next at len ys bytes (omega arith) size more (xor_stream stream (p + len) rest) in
      let parts = take-add len more (drop at bytes) in
      rw (place, behind, next, parts, drop-drop len at bytes, xor_stream-append stream p old rest, long)

  applied-again : at + len ≤ length bytes → (applied s c (applied s c bytes at len).bytes at len).bytes ≡ bytes
  applied-again inside =
      let stream = s.stream c.fixed in
      let old = part at len bytes in
      let ys = xor_stream stream c.position old in
      let size = length-xor_stream stream c.position old ∙ part_long at len bytes inside in
      let again = part-put at len ys bytes (omega arith) size in
      rw (again, xor_stream-xor_stream stream c.position old, put-put at len ys bytes (omega arith) size old)
      (put_same at len bytes)

  run-again : c.position + len ≤ s.limit
      → (let first = applied s c bytes at len in
      cipher_run s c bytes (Apply at len ∷ Seek c.position ∷ Apply at len ∷ [])
      ≡ (Done ∷ Done ∷ Done ∷ [], first.cipher, (applied s c first.bytes at len).bytes))
  run-again fits =
      let room = le-leb (c.position + len) s.limit fits in
      rw (room, le-leb c.position s.limit (omega arith), room)

-- pieces that lie in the data lie in it together
pieces-fit : (input n at len : ℕ) (lens : List ℕ) → AllByRecursion (InSlices input n) (pieces at (len ∷ lens))
    → at + (len + sum lens) ≤ n
pieces-fit input n at len [] h = let here : at + len ≤ n = h.0 in omega arith
pieces-fit input n at len (l ∷ ls) h =
    omega (arith, pieces-fit input n (at + len) l ls h.1, sum_by-cons (λ x. x) l ls)

-- what a run leaves is what a call leaves
abbrev Ends : List CipherAnswer × Cipher × List ℕ → CipherOutcome → Type 0
Ends run o = (run.1 ≡ o.cipher) × (run.2 ≡ o.bytes)

-- a range that is applied piece by piece is applied as a whole
run-pieces : {n : ℕ} (s : Setting) (at : ℕ) (lens : List ℕ) (c : Cipher) (bytes : List ℕ) → length bytes ≡ n
    → AllByRecursion (InSlices (length s.input) n) (pieces at lens) → c.position + sum lens ≤ s.limit
    → Ends (cipher_run s c bytes (pieces at lens)) (applied s c bytes at (sum lens))
run-pieces s at [] c bytes size ranges fits =
    let still : c.position + 0 ≡ c.position = omega arith in
    (ap (λ p. record c { position = p }) (sym still), sym (put_same at 0 bytes))
run-pieces {n} s at (len ∷ lens) c bytes size ranges fits =
    let all : sum (len ∷ lens) ≡ len + sum lens = sum_by-cons (λ x. x) len lens in
    let inside : at + (len + sum lens) ≤ length bytes = rw size (pieces-fit (length s.input) n at len lens ranges) in
    let first = applied s c bytes at len in
    let run = λ (o : CipherOutcome). cipher_run s o.cipher o.bytes (pieces (at + len) lens) in
    let next = run-pieces s (at + len) lens first.cipher first.bytes (length-applied s c bytes at len ∙ size) ranges.1
    (omega (arith, all)) in
    let whole = applied-more s c bytes at len (sum lens) inside ∙ ap (applied s c bytes at) (sym all) in
    subst (λ o. Ends (run o) (applied s c bytes at (sum (len ∷ lens))))
    (sym (apply-is s c bytes at len (omega (arith, all)))) (subst (Ends (run first)) whole next)

-- a run of calls whose ranges lie in the data
pub record Ran (s : Setting) (c : Cipher) (old : List ℕ) (calls : List CipherCall)
    (end : List CipherAnswer × Cipher × List ℕ) : Type 0 where
  pub run : end ≡ cipher_run s c old calls
  pub ranges : AllByRecursion (InSlices (length s.input) (length old)) calls

-- the two laws, of any such run
module _ {s : Setting} {c : Cipher} {old : List ℕ} {calls : List CipherCall} {end : List CipherAnswer × Cipher × List ℕ}
    (ran : Ran s c old calls end) where
  pub law-seek_back : (at len : ℕ) → calls ≡ Apply at len ∷ Seek c.position ∷ Apply at len ∷ []
      → end.0 ≡ Done ∷ Done ∷ Done ∷ [] → (end.1 ≡ record c { position = c.position + len }) × (end.2 ≡ old)
  law-seek_back at len these done =
      let all = ran.run ∙ ap (cipher_run s c old) these in
      let first : (cipher_outcome s c old (Apply at len)).answer ≡ Done =
      let answers = sym (ap (λ r. r.0) all) ∙ done in cc in
      let run = all ∙ run-again s c old at len (apply-fits s c old at len first) in
      (ap (λ r. r.1) run, ap (λ r. r.2) run ∙ applied-again s c old at len (rw these at ran.ranges).0)

  pub law-cut_anywhere : (at : ℕ) (lens : List ℕ) → calls ≡ pieces at lens
      → (let whole = cipher_outcome s c old (Apply at (sum lens)) in
      whole.answer ≡ Done → (end.1 ≡ whole.cipher) × (end.2 ≡ whole.bytes))
  law-cut_anywhere at lens these done =
      let all = ran.run ∙ ap (cipher_run s c old) these in
      let fits = apply-fits s c old at (sum lens) done in
      let cut = run-pieces s at lens c old refl (rw these at ran.ranges) fits in
      let whole = sym (apply-is s c old at (sum lens) fits) in
      (ap (λ r. r.1) all ∙ cut.0 ∙ ap (λ a. a.cipher) whole, ap (λ r. r.2) all ∙ cut.1 ∙ ap (λ a. a.bytes) whole)
