use Rattle.std.proofs.Common.{◌≡◌, ◌≢◌, ◌*◌, ◌+◌, ◌/◌, ◌%◌, ◌++◌, ◌∷◌, [], ◌∙◌, ℕ, List, length, take, length-drop, ap, sym, arith}
use Rattle.std.proofs.lemmas.Bool.{eqb-true, eq-eqb, true≢false}
use Rattle.poly1305.specs.Poly1305.{prime, number, accumulator, State, after}
use Rattle.poly1305.specs.Limbs.{value_of, r_value}
use Rattle.poly1305.proofs.AccumulatorLemmas.{padded-whole, padded-tail}
use Rattle.poly1305.proofs.mac.Poly1305.update_padded.Goals as goal

-- a text with nothing behind its whole blocks
no-rest : (key text : List ℕ) → (after key text).rest ≡ [] → length text % 16 ≡ 0
no-rest key text none = omega (arith, ap length none, length-drop (16 * (length text / 16)) text)

pub returns-then-not-is_empty-clause-value : goal.returns-then-not-is_empty-clause-value
returns-then-not-is_empty-clause-value c key text same =
    let mac = c.self.inside in
    let piece : List ℕ = c.args.piece.now in
    let tail : List ℕ = c.split_at.result.1.now in
    let block : List ℕ = c.with_zeros.result in
    let some : length tail ≢ 0 =
    λ none. true≢false (sym (eq-eqb (length tail) 0 none) ∙ sym c.is_empty.ensures ∙ c.if-not-is_empty.true) in
    let view : State = record {
      r = r_value mac.r;
      s = mac.s;
      accumulator = value_of mac.accumulator % prime;
      rest = take mac.filled mac.buffer;
    } in
    let last = number (block ++ 1 ∷ []) in
    ap (λ bs. record view { accumulator = value_of c.absorb-self-inside.result % prime; rest = bs })
    (ap (λ (m : State). m.rest) c.self.view_is ∙ c.requires)
    ∙ ap (λ a. record view { accumulator = a; rest = [] })
    (c.absorb-self-inside.ensures.value
    ∙ ap (λ a. view.r * (a + last) % prime) c.absorb_all-self-inside.ensures.value)
    ∙ ap (λ (m : State). record m {
      accumulator = m.r * (accumulator m.r m.accumulator piece (length piece / 16) + last) % prime;
      rest = [];
    }) (c.self.view_is ∙ same)
    ∙ sym (padded-tail key text piece (no-rest key text (ap (λ (m : State). m.rest) (sym same) ∙ c.requires))
    c.split_at.ensures.back some block c.with_zeros.ensures)

pub returns-else-not-is_empty-clause-value : goal.returns-else-not-is_empty-clause-value
returns-else-not-is_empty-clause-value c key text same =
    let mac = c.self.inside in
    let piece : List ℕ = c.args.piece.now in
    let tail : List ℕ = c.split_at.result.1.now in
    let none = eqb-true (length tail) 0 (sym c.is_empty.ensures ∙ c.if-not-is_empty.false) in
    let view : State = record {
      r = r_value mac.r;
      s = mac.s;
      accumulator = value_of mac.accumulator % prime;
      rest = take mac.filled mac.buffer;
    } in
    ap (λ bs. record view { accumulator = value_of c.absorb_all-self-inside.result % prime; rest = bs })
    (ap (λ (m : State). m.rest) c.self.view_is ∙ c.requires)
    ∙ ap (λ a. record view { accumulator = a; rest = [] }) c.absorb_all-self-inside.ensures.value
    ∙ ap (λ (m : State). record m {
      accumulator = accumulator m.r m.accumulator piece (length piece / 16);
      rest = [];
    }) (c.self.view_is ∙ same)
    ∙ sym (padded-whole key text piece (no-rest key text (ap (λ (m : State). m.rest) (sym same) ∙ c.requires))
    c.split_at.ensures.back none)
