-- What a reader gave, and what was written of its text's sealed file.
use Rattle.std.proofs.Common.{◌≡◌, ◌<◌, ◌≤◌, ◌+◌, ◌-◌, ◌*◌, ◌/◌, ◌^◌, ◌∙◌, ℕ, zero, suc, true, false, not, List, [], ◌∷◌, ◌++◌, Some, None, IfSome, IsSome, IsNone, IsTrue, IsFalse, is_some, length, take, set, get_or, arith, sym, ap, subst, append-nil, append_assoc, length-append, length-take-le, take-take, refl, Bool, true≢false}
use Rattle.std.proofs.Math.Seq.{take-append-add}
use Rattle.std.proofs.lemmas.List.{take-append-le, take_more, take_more_set}
use Rattle.std.proofs.lemmas.Option.{IfSome_then}
use Rattle.std.specs.declared.option.Option.{Option}
use Rattle.std.specs.Io.KnownBytes.{Appends, Consumes, IsAtEnd}
use Rattle.std.proofs.KnownBytes.{Appends-nil, Appends-trans, Consumes-nil, Consumes-trans}
use Rattle.sealed_file.specs.Sealed.{header, chunk, chunks, sealed, left, IsSealed}
use Rattle.sealed_file.proofs.ChunkLemmas.{begins-before, chunks-front, chunks-more, sealed-end}

-- a byte that was read ahead
pub ahead : (a : Option (List ℕ)) (xs : List ℕ) (x : ℕ) → 0 < length xs
    → Consumes (left (Some x) a) a (take 1 (set xs 0 x))
ahead None xs x some = tt
ahead (Some ys) xs x some = ap (λ zs. zs ++ ys) (sym (take_more_set xs 0 x some))

-- and the last one that was read
pub behind : (a b : Option (List ℕ)) (xs : List ℕ) (n : ℕ) → n < length xs → Consumes a b (take (n + 1) xs)
    → Consumes a (left (Some (get_or xs n 0)) b) (take n xs)
behind None b xs n less read = tt
behind (Some all) None xs n less read = absurd read
behind (Some all) (Some ys) xs n less read =
    read ∙ ap (λ zs. zs ++ ys) (take_more xs n 0 less) ∙ append_assoc (take n xs) (get_or xs n 0 ∷ []) ys

-- what a reader gave, and what follows
pub rest-of : (a b : Option (List ℕ)) (next : Option ℕ) (xs : List ℕ) → Consumes a (left next b) xs
    → (rest : List ℕ) × IfSome a (λ all. all ≡ xs ++ rest) × (IsSome next → 0 < length rest)
    × (IsNone next → IsAtEnd b → rest ≡ [])
rest-of None b None xs read = ([], tt, (λ some. absurd (true≢false (sym some))), λ _ _. refl)
rest-of None b (Some x) xs read = (x ∷ [], tt, (λ _. omega arith), λ none. absurd (true≢false none))
rest-of (Some all) None None xs read = absurd read
rest-of (Some all) None (Some x) xs read = absurd read
rest-of (Some all) (Some ys) None xs read = (ys, read, (λ some. absurd (true≢false (sym some))), λ _ end. end)
rest-of (Some all) (Some ys) (Some x) xs read = (x ∷ ys, read, (λ _. omega arith), λ none. absurd (true≢false none))

-- where the byte that follows says whether these are the last
pub next-of : (a b : Option (List ℕ)) (after : Option ℕ) (xs : List ℕ) (last : Bool) → Consumes a (left after b) xs
    → (IsNone after → IsAtEnd b) → is_some after ≡ not last
    → (rest : List ℕ) × IfSome a (λ all. all ≡ xs ++ rest) × (IsTrue last → rest ≡ [])
    × (IsFalse last → IsSome after × (0 < length rest))
next-of a b after xs last read end is =
    let (rest, all, some, none) = rest-of a b after xs read in (
      rest,
      all,
      (λ ends. let no = is ∙ ap not ends in none no (end no)),
      (λ goes. let more = is ∙ ap not goes in (more, some more)),
    )

-- more than n bytes
pub long-text : (a b : Option (List ℕ)) (next : Option ℕ) (xs : List ℕ) (n : ℕ) → Consumes a (left next b) xs
    → n ≤ length xs → IsSome next → IfSome a (λ all. n < length all)
long-text a b next xs n read long more =
    let (rest, all, some, _) = rest-of a b next xs read in
    IfSome_then a all (λ ys is. omega (arith, ap length is, length-append xs rest, some more, long))

-- the chunks before chunk i: what a reader gave, and what a writer took, by their text
pub record Before (a b w v : Option (List ℕ)) (next : Option ℕ) (i : ℕ) (gave took : List ℕ → List ℕ) : Type 0 where
  pub text : List ℕ
  pub long : length text ≡ 65536 * i
  pub some : 0 < i → IsSome next
  pub read : Consumes a (left next b) (gave text)
  pub written : Appends w v (took text)

-- and the next one
pub and-next : {a b w v : Option (List ℕ)} {next : Option ℕ} {i : ℕ} {gave took : List ℕ → List ℕ}
    (b' u : Option (List ℕ)) (after : Option ℕ) (gave' took' : List ℕ → List ℕ) (piece new bytes : List ℕ)
    → (before : Before a b w v next i gave took) → length piece ≡ 65536 → IsSome after
    → Consumes (left next b) (left after b') bytes → Appends v u new
    → gave before.text ++ bytes ≡ gave' (before.text ++ piece)
    → took before.text ++ new ≡ took' (before.text ++ piece)
    → Before a b' w u after (i + 1) gave' took'
and-next {a} {b} {w} {v} {next} b' u after gave' took' piece new bytes before full goes read done gives takes = record {
  text = before.text ++ piece;
  long = omega (arith, length-append before.text piece, before.long, full);
  some = λ _. goes;
  read = subst (Consumes a (left after b')) gives
      (Consumes-trans a (left next b) (left after b') _ bytes before.read read);
  written = subst (Appends w u) takes (Appends-trans w v u _ new before.written done);
}

-- what was written is a front of the file of a text, and not all of it: of the reader's, where that is known
abbrev pub SealedFront : Option (List ℕ) → List ℕ → List ℕ → Option (List ℕ) → Option (List ℕ) → Type 0
SealedFront a key salt w v = (text : List ℕ) × (n : ℕ) × IfSome a (λ all. all ≡ text)
    × (n < length (sealed key salt text)) × Appends w v (take n (sealed key salt text))

-- a front of what follows
pub front-more : (w v u : Option (List ℕ)) (xs ys rest : List ℕ) (n : ℕ) → n ≤ length ys
    → Appends w v xs → Appends v u (take n ys) → Appends w u (take (length xs + n) (xs ++ (ys ++ rest)))
front-more w v u xs ys rest n less before more =
    subst (Appends w u) (sym (take-append-add xs (ys ++ rest) n ∙ ap (λ zs. xs ++ zs) (take-append-le n ys rest less)))
    (Appends-trans w v u xs (take n ys) before more)

sealed-front : (a w v u : Option (List ℕ)) (key salt text xs ys rest : List ℕ) (n : ℕ) → IfSome a (λ all. all ≡ text)
    → sealed key salt text ≡ xs ++ (ys ++ rest) → n ≤ length ys → n < length (ys ++ rest)
    → Appends w v xs → Appends v u (take n ys) → SealedFront a key salt w u
sealed-front a w v u key salt text xs ys rest n all is fits less before more = (
  text,
  length xs + n,
  all,
  omega (arith, ap length is, length-append xs (ys ++ rest), less),
  subst (λ file. Appends w u (take (length xs + n) file)) (sym is) (front-more w v u xs ys rest n fits before more),
)

-- a front of the header is written
pub front-header : (a w v : Option (List ℕ)) (key salt : List ℕ) (n : ℕ) → length salt ≡ 19 → n < 32
    → Appends w v (take n (header salt)) → SealedFront a key salt w v
front-header a w v key salt n size few written =
    let (text, all, _, _) = rest-of a a None [] (Consumes-nil a) in
    let (tail, is, _) = begins-before key salt text 0 (omega arith) in
    sealed-front a w w v key salt text [] (header salt) tail n all
    (is ∙ ap (λ head. head ++ tail) (append-nil (header salt))) (omega (arith, few, size))
    (omega (arith, few, size, length-append (header salt) tail)) (Appends-nil w) written

-- the chunks before chunk i are written
abbrev pub Written : (a b w v : Option (List ℕ)) (next : Option ℕ) (key salt : List ℕ) → ℕ → Type 0
Written a b w v next key salt i = Before a b w v next i (λ text. text) (λ text. header salt ++ chunks key salt text i)

-- a file begins with its first chunks, behind which something follows
least : (i n : ℕ) → (0 < i → 0 < n) → i ≤ (65536 * i + n - 1) / 65536
least zero n some = omega arith
least (suc i) n some = omega (arith, some (omega arith))

file-begins : (key salt text rest : List ℕ) (i : ℕ) → length text ≡ 65536 * i → (0 < i → 0 < length rest)
    → (tail : List ℕ) × (sealed key salt (text ++ rest) ≡ (header salt ++ chunks key salt text i) ++ tail)
    × (0 < length tail)
file-begins key salt text rest i long more =
    let (tail, is, some) = begins-before key salt (text ++ rest) i
    (omega (arith, long, length-append text rest, least i (length rest) more)) in (
      tail,
      is ∙ ap (λ cs. (header salt ++ cs) ++ tail) (chunks-front key salt text rest i (omega (arith, long))),
      some,
    )

pub front-before : {a b w v : Option (List ℕ)} {next : Option ℕ} (key salt : List ℕ) {i : ℕ}
    → Written a b w v next key salt i → SealedFront a key salt w v
front-before {a} {b} {w} {v} {next} key salt {i} before =
    let text = before.text in
    let (rest, all, some, _) = rest-of a b next text before.read in
    let (tail, is, left) = file-begins key salt text rest i before.long (λ later. some (before.some later)) in
    sealed-front a w v v key salt (text ++ rest) _ [] tail 0 all is (omega arith) left before.written (Appends-nil v)

-- and with the next one, a last one or another
chunk-begins : (key salt text piece rest : List ℕ) (i : ℕ) (last : Bool) → length text ≡ 65536 * i
    → length piece ≤ 65536 → (0 < i → 0 < length piece) → (IsTrue last → rest ≡ [])
    → (IsFalse last → (length piece ≡ 65536) × (0 < length rest))
    → (tail : List ℕ) × (sealed key salt ((text ++ piece) ++ rest)
    ≡ ((header salt ++ chunks key salt text i) ++ chunk key salt i last piece) ++ tail)
chunk-begins key salt text piece rest i true long fits some none more = (
  [],
  ap (sealed key salt) (ap (λ r. (text ++ piece) ++ r) (none refl) ∙ append-nil (text ++ piece))
      ∙ sym (sealed-end key salt text piece i long fits some) ∙ sym (append-nil _),
)
chunk-begins key salt text piece rest i false long fits some none more =
    let (full, one) = more refl in
    let (tail, is, _) = file-begins key salt (text ++ piece) rest (i + 1)
    (omega (arith, length-append text piece, long, full)) (λ _. one) in
    (tail, is ∙ ap (λ cs. cs ++ tail) (sym (chunks-more key salt text piece i long full)))

-- a text in front of a tag's place
text-in : (buf : List ℕ) (n : ℕ) → n + 16 ≤ length buf
    → take (length (take (n + 16) buf) - 16) (take (n + 16) buf) ≡ take n buf
text-in buf n fits =
    let size : length (take (n + 16) buf) - 16 ≡ n = omega (arith, length-take-le (n + 16) buf fits) in
    ap (λ k. take k (take (n + 16) buf)) size ∙ take-take n (n + 16) buf (omega arith)

-- what chunk i makes of the file
pub record Sealing (a b w v : Option (List ℕ)) (after : Option ℕ) (key salt new : List ℕ) (i : ℕ) (last : Bool)
    : Type 0 where
  pub partly : (u : Option (List ℕ)) (k : ℕ) → k < length new → Appends v u (take k new)
      → SealedFront a key salt w u
  pub whole : IsTrue last → (u : Option (List ℕ)) → Appends v u new
      → (text file : List ℕ) × IfSome a (λ all. all ≡ text) × IsSealed key salt text file × Appends w u file
  pub more : IsFalse last → (u : Option (List ℕ)) → Appends v u new → Written a b w u after key salt (i + 1)

-- of n bytes of text that were read, and the byte behind them, if there is one
pub sealing : {a b w v : Option (List ℕ)} {next : Option ℕ} (key salt : List ℕ) {i : ℕ} (b' : Option (List ℕ))
    (after : Option ℕ) (buf new : List ℕ) (n : ℕ) (last : Bool)
    → Written a b w v next key salt i → length salt ≡ 19 → i < 2 ^ 32
    → Consumes (left next b) (left after b') (take n buf) → (n ≤ 65536) × (IsSome next → 0 < n)
    → (IsSome after → n ≡ 65536) → (IsNone after → IsAtEnd b') → is_some after ≡ not last → n + 16 ≤ length buf
    → new ≡ chunk key salt i last (take (length (take (n + 16) buf) - 16) (take (n + 16) buf))
    → Sealing a b' w v after key salt new i last
sealing {a} {b} {w} {v} {next} key salt {i} b' after buf new n last before size few read fits full end
    is_last room is =
    let text = before.text in
    let piece = take n buf in
    let front = header salt ++ chunks key salt text i in
    let long = length-take-le n buf (omega (arith, room)) in
    let read' = Consumes-trans a (left next b) (left after b') text piece before.read read in
    let (rest, all, ends, goes) = next-of a b' after (text ++ piece) last read' end is_last in
    let is' : new ≡ chunk key salt i last piece = is ∙ ap (chunk key salt i last) (text-in buf n room) in
    let first : 0 < i → 0 < length piece = λ later. omega (arith, long, fits.1 (before.some later)) in
    let tells : IsFalse last → (length piece ≡ 65536) × (0 < length rest) =
    λ no. (long ∙ full (goes no).0, (goes no).1) in
    let (tail, file) =
    chunk-begins key salt text piece rest i last before.long (omega (arith, long, fits.0)) first ends tells in
    record {
      partly = λ u k less done.
          let begins = file ∙ ap (λ c. (front ++ c) ++ tail) (sym is') ∙ append_assoc front new tail in
          sealed-front a w v u key salt ((text ++ piece) ++ rest) front new tail k all begins (omega (arith, less))
          (omega (arith, less, length-append new tail)) before.written done;
      whole = λ yes u done. (
        text ++ piece,
        sealed key salt (text ++ piece),
        IfSome_then a all (λ xs same. same ∙ ap (λ r. (text ++ piece) ++ r) (ends yes) ∙ append-nil (text ++ piece)),
        (size, omega (arith, length-append text piece, before.long, long, fits.0, few), refl),
        subst (Appends w u)
            (ap (λ c. front ++ c)
            (is' ∙ ap (λ l. chunk key salt i l piece) yes)
            ∙ sealed-end key salt text piece i before.long (omega (arith, long, fits.0)) first)
            (Appends-trans w v u front new before.written done),
      );
      more = λ no u done. and-next b' u after (λ t. t) (λ t. header salt ++ chunks key salt t (i + 1)) piece new piece
          before (tells no).0 (goes no).0 read done refl (ap (λ c. front ++ c)
          (is' ∙ ap (λ l. chunk key salt i l piece) no)
          ∙ chunks-more key salt text piece i before.long (tells no).0);
    }
