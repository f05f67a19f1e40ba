use Rattle.std.proofs.Common.{◌≡◌, ◌+◌, ◌-◌, ◌*◌, ◌/◌, ◌%◌, ◌≤◌, ◌++◌, ◌∷◌, [], ◌∙◌, ℕ, List, length, take, drop, append_assoc, length-take, length-drop, ap, subst, sym, arith}
use Rattle.std.proofs.lemmas.List.{take_all, take-append-drop}
use Rattle.poly1305.specs.Poly1305.{prime, number, State}
use Rattle.poly1305.specs.Absorbed.{Absorbed}
use Rattle.poly1305.proofs.AccumulatorLemmas.{absorbed-whole, absorbed-block}
use Rattle.poly1305.proofs.mac.Poly1305.absorb_begun.Goals as goal

pub returns-then-self-eq0-clause-value : goal.returns-then-self-eq0-clause-value
returns-then-self-eq0-clause-value c key text same =
    let mac = c.self.inside in
    let piece : List ℕ = c.args.piece.now in
    let before = c.self.view_is ∙ same in
    let kept : take mac.filled mac.buffer ≡ drop (16 * (length text / 16)) text = ap (λ (m : State). m.rest) before in
    let none : length text % 16 ≡ 0 =
    omega (arith, length-take mac.filled mac.buffer, ap length kept, length-drop (16 * (length text / 16)) text) in
    subst (λ a. Absorbed key (text ++ piece) a piece) (sym (ap (λ (m : State). m.accumulator) before))
    (absorbed-whole key text piece none)

pub returns-clause-value : goal.returns-clause-value
returns-clause-value c key text same =
    let mac = c.self.inside in
    let piece : List ℕ = c.args.piece.now in
    let kept : List ℕ = take mac.filled mac.buffer in
    let front : List ℕ = c.split_at.result.0.now in
    let rest : List ℕ = c.split_at.result.1.now in
    let whole : List ℕ = c.copy_behind.new.buffer in
    let before = c.self.view_is ∙ same in
    let room : length front ≡ 16 - mac.filled = c.split_at.ensures.front_len in
    let few : length whole ≤ mac.filled + length front = omega (arith, c.copy_behind.array_long, c.self.invariant) in
    let filled : whole ≡ kept ++ front = sym (take_all (mac.filled + length front) whole few) ∙ c.copy_behind.ensures in
    let cut : front ++ rest ≡ piece =
    ap (λ xs. xs ++ rest) c.split_at.ensures.front
    ∙ ap (λ xs. take (16 - mac.filled) piece ++ xs) c.split_at.ensures.back
    ∙ take-append-drop (16 - mac.filled) piece in
    let joined : whole ++ rest ≡ drop (16 * (length text / 16)) text ++ piece =
    ap (λ xs. xs ++ rest) filled ∙ append_assoc kept front rest ∙ ap (λ xs. kept ++ xs) cut
    ∙ ap (λ (m : State). m.rest ++ piece) before in
    subst (λ a. Absorbed key (text ++ piece) a rest)
    (sym (c.absorb.ensures.value
    ∙ ap (λ (m : State). m.r * (m.accumulator + number (whole ++ 1 ∷ [])) % prime) before))
    (absorbed-block key text piece whole rest joined c.copy_behind.array_long)
