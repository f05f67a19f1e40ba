-- What a reader had, of which the chunks before chunk i were right.
use Rattle.std.proofs.Common.{◌≡◌, ◌<◌, ◌≤◌, ◌+◌, ◌-◌, ◌*◌, ◌^◌, ◌∙◌, ℕ, not, List, [], ◌++◌, Some, None, IfSome, IsSome, IsNone, IsTrue, IsFalse, is_some, length, take, drop, take_all, arith, refl, sym, ap, subst, append-nil, append_assoc, length-append, length-take-le, Bool}
use Rattle.std.proofs.Math.Seq.{take-append_seam}
use Rattle.std.specs.declared.option.Option.{Option}
use Rattle.std.specs.Io.KnownBytes.{Appends, Consumes, IsAtEnd}
use Rattle.std.proofs.KnownBytes.{Appends-nil, Appends-trans, Consumes-nil, Consumes-trans}
use Rattle.sealed_file.specs.declared.error.Damage.{Damage}
use Rattle.sealed_file.specs.declared.error.Damage.TheVariants.{TooLong}
use Rattle.sealed_file.specs.Opened.{followed, opened, opened_chunk, opened_rest}
use Rattle.sealed_file.specs.Sealed.{header, header_damage, chunk, chunks, left, damage_at, IsNoChunk, IsSealed}
use Rattle.sealed_file.proofs.ChunkLemmas.{chunks-more, sealed-end, length-chunk}
use Rattle.sealed_file.proofs.EncryptLemmas.{Before, and-next, front-more, next-of, rest-of}
use Rattle.sealed_file.proofs.HeaderLemmas.{header-front}
use Rattle.sealed_file.proofs.OpenedLemmas.{opened-front, opened-long, opened-sealed, opened-step, right-chunk, wrong-chunk}

-- what is wrong with a reader's bytes, and the text before it, which is written
abbrev pub HasDamage : Option (List ℕ) → List ℕ → Option (List ℕ) → Option (List ℕ) → Damage → Type 0
HasDamage a key w v damage = (file text : List ℕ) × IfSome a (λ all. all ≡ file)
    × (opened key file ≡ (text, Some damage)) × Appends w v text

-- with their header
abbrev pub HasHeaderDamage : Option (List ℕ) → Damage → Type 0
HasHeaderDamage a damage = (file : List ℕ) × IfSome a (λ all. all ≡ file) × (header_damage file ≡ Some damage)

pub header-wrong : (a b : Option (List ℕ)) (front : List ℕ) (damage : Damage) → Consumes a b front
    → (length front < 32 → IsAtEnd b) → header_damage front ≡ Some damage → HasHeaderDamage a damage
header-wrong a b front damage read end wrong =
    let (rest, all, _, nothing) = rest-of a b None front read in
    (front ++ rest, all, header-front front rest (λ short. nothing refl (end short)) ∙ wrong)

pub nothing-written : (a w : Option (List ℕ)) (key : List ℕ) (damage : Damage) → HasHeaderDamage a damage
    → HasDamage a key w w damage
nothing-written a w key damage (file, all, wrong) =
    let rest = opened_rest key (take 19 (drop 13 file)) 0 (drop 32 file) in
    (file, [], all, ap (λ d. followed ([], d) rest) wrong, Appends-nil w)

-- one text
pub text-of : (a w v : Option (List ℕ)) (key salt text file : List ℕ) → IfSome a (λ all. all ≡ file)
    → IsSealed key salt text file → Appends w v text
    → (salt' text' file' : List ℕ) → a ≡ Some file' → IsSealed key salt' text' file' → Appends w v text'
text-of a w v key salt text file same is written salt' text' file' known is' =
    subst (Appends w v) (ap (λ p. p.0) (sym (opened-sealed key salt text file is)
    ∙ ap (opened key) (sym (subst (λ o. IfSome o (λ all. all ≡ file)) known same))
    ∙ opened-sealed key salt' text' file' is')) written

-- what was written is a front of the right text
abbrev pub RightFront : Option (List ℕ) → List ℕ → Option (List ℕ) → Option (List ℕ) → Type 0
RightFront a key w v = (file : List ℕ) × (n : ℕ) × IfSome a (λ all. all ≡ file)
    × Appends w v (take n (opened key file).0)

-- and so is nothing
pub none-written : (a w : Option (List ℕ)) (key : List ℕ) → RightFront a key w w
none-written a w key =
    let (file, all, _, _) = rest-of a a None [] (Consumes-nil a) in (file, 0, all, Appends-nil w)

-- the chunks before chunk i were right, and their text is written
abbrev pub Opened : (a b w v : Option (List ℕ)) (next : Option ℕ) (key salt : List ℕ) → ℕ → Type 0
Opened a b w v next key salt i = Before a b w v next i (λ text. header salt ++ chunks key salt text i) (λ text. text)

module _ {a b w v : Option (List ℕ)} {next : Option ℕ} (key salt : List ℕ) {i : ℕ} (size : length salt ≡ 19)
    (most : i ≤ 2 ^ 32) (before : Opened a b w v next key salt i) where
  abbrev front : List ℕ
  front = header salt ++ chunks key salt before.text i

  -- what the file opens to, with what follows
  opens : (rest : List ℕ) → (IsSome next → 0 < length rest)
      → opened key (front ++ rest) ≡ followed (before.text, None) (opened_rest key salt i rest)
  opens rest some =
      opened-front key salt before.text rest i size (omega (arith, before.long)) most
      (λ later. some (before.some later))
      ∙ ap (λ t. followed (t, None) (opened_rest key salt i rest))
      (take_all (65536 * i) before.text (omega (arith, before.long)))

  pub so-far : RightFront a key w v
  so-far =
      let (rest, all, some, _) = rest-of a b next front before.read in (
        front ++ rest,
        length before.text,
        all,
        subst (Appends w v) (sym (ap (λ p. take (length before.text) p.0) (opens rest some)
            ∙ take-append_seam before.text _)) before.written,
      )

  pub too-long : i ≡ 2 ^ 32 → HasDamage a key w v TooLong
  too-long at =
      let (rest, all, some, _) = rest-of a b next front before.read in (
        front ++ rest,
        before.text,
        all,
        opens rest some ∙ ap (followed (before.text, None)) (opened-long key salt i _ rest at)
            ∙ ap (λ t. (t, Some TooLong)) (append-nil before.text),
        before.written,
      )

-- the text of chunk i, whose bytes are right
abbrev pub HasText : List ℕ → List ℕ → List ℕ → ℕ → Bool → List ℕ → Type 0
HasText key salt bytes i last text = (0 < i → 0 < length text) × (bytes ≡ chunk key salt i last text)

-- what the tag of chunk i tells
pub record Opening (a b w v : Option (List ℕ)) (after : Option ℕ) (key salt bytes : List ℕ) (i : ℕ) (last : Bool)
    : Type 0 where
  pub wrong : IsNoChunk key salt i last bytes → HasDamage a key w v (damage_at i last)
  pub partly : (piece : List ℕ) → HasText key salt bytes i last piece
      → (u : Option (List ℕ)) (k : ℕ) → k ≤ length piece → Appends v u (take k piece) → RightFront a key w u
  pub whole : IsTrue last → (piece : List ℕ) → HasText key salt bytes i last piece
      → (u : Option (List ℕ)) → Appends v u piece
      → (salt' text file : List ℕ) × IfSome a (λ all. all ≡ file) × IsSealed key salt' text file × Appends w u text
  pub more : IsFalse last → (piece : List ℕ) → HasText key salt bytes i last piece
      → (u : Option (List ℕ)) → Appends v u piece → Opened a b w u after key salt (i + 1)

-- of n bytes that were read, and the byte behind them, if there is one
pub opening : {a b w v : Option (List ℕ)} {next : Option ℕ} (key salt : List ℕ) {i : ℕ} (b' : Option (List ℕ))
    (after : Option ℕ) (buf : List ℕ) (n : ℕ) (last : Bool) → Opened a b w v next key salt i → length salt ≡ 19
    → i < 2 ^ 32 → Consumes (left next b) (left after b') (take n buf) → (n ≤ 65552) × (IsSome next → 0 < n)
    → (IsSome after → n ≡ 65552) → (IsNone after → IsAtEnd b') → is_some after ≡ not last → n ≤ length buf
    → Opening a b' w v after key salt (take n buf) i last
opening {a} {b} {w} {v} {next} key salt {i} b' after buf n last before size few read fits full end is_last room =
    let text = before.text in
    let front = header salt ++ chunks key salt text i in
    let bytes = take n buf in
    let long = length-take-le n buf room in
    let read' = Consumes-trans a (left next b) (left after b') front bytes before.read read in
    let (rest, all, ends, goes) = next-of a b' after (front ++ bytes) last read' end is_last in
    let whole : IsFalse last → length bytes ≡ 65552 = λ no. long ∙ full (goes no).0 in
    let file = (front ++ bytes) ++ rest in
    let (more, step) = opened-step key salt i last bytes rest (omega (arith, long, fits.0)) ends
    (λ no. (whole no, (goes no).1)) in
    let is : opened key file ≡ followed (text, None) (followed (opened_chunk key salt i last bytes) more) =
    ap (opened key) (append_assoc front bytes rest)
    ∙ opens key salt size (omega (arith, few)) before (bytes ++ rest)
    (λ some. omega (arith, length-append bytes rest, long, fits.1 some))
    ∙ ap (followed (text, None)) step in
    record {
      wrong = λ none. (
        file,
        text,
        all,
        is ∙ ap (λ part. followed (text, None) (followed part more)) (wrong-chunk key salt i last few bytes none)
            ∙ ap (λ t. (t, Some (damage_at i last))) (append-nil text),
        before.written,
      );
      partly = λ piece (some, right) u k less done. (
        file,
        length text + k,
        all,
        subst (λ t. Appends w u (take (length text + k) t))
            (sym (ap (λ p. p.0) (is ∙ ap (λ part. followed (text, None) (followed part more))
            (right-chunk key salt i last few bytes piece some right))))
            (front-more w v u text piece more.0 k less before.written done),
      );
      whole = λ yes piece (some, right) u done.
          let short : length piece ≤ 65536 =
          omega (arith, long, fits.0, ap length right, length-chunk key salt i last piece) in (
            salt,
            text ++ piece,
            file,
            all,
            (
              size,
              omega (arith, length-append text piece, before.long, short, few),
              ap (λ r. (front ++ bytes) ++ r) (ends yes) ∙ append-nil (front ++ bytes)
                  ∙ ap (λ c. front ++ c) (right ∙ ap (λ l. chunk key salt i l piece) yes)
                  ∙ sealed-end key salt text piece i before.long short some,
            ),
            Appends-trans w v u text piece before.written done,
          );
      more = λ no piece (_, right) u done.
          let full' : length piece ≡ 65536 =
          omega (arith, whole no, ap length right, length-chunk key salt i last piece) in
          and-next b' u after (λ t. header salt ++ chunks key salt t (i + 1)) (λ t. t) piece piece bytes before full'
          (goes no).0 read done (ap (λ c. front ++ c) (right ∙ ap (λ l. chunk key salt i l piece) no)
          ∙ chunks-more key salt text piece i before.long full') refl;
    }

-- the text of a chunk that was opened in place
pub has-text : (key salt buf new : List ℕ) (i n : ℕ) (last : Bool) → n ≤ length buf
    → length new ≡ length (take n buf)
    → take n buf ≡ chunk key salt i last (take (length (take n buf) - 16) new)
    → (16 ≤ length (take n buf)) × (0 < i → 16 < length (take n buf))
    → HasText key salt (take n buf) i last (take (n - 16) new)
has-text key salt buf new i n last room same right (_, long) =
    let wide = length-take-le n buf room in (
      (λ later. omega (arith, same, wide, long later, length-take-le (n - 16) new (omega (arith, same, wide)))),
      right ∙ ap (λ k. chunk key salt i last (take (k - 16) new)) wide,
    )
