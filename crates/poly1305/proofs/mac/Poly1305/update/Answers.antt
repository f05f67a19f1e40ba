use Rattle.std.proofs.Common.{◌≡◌, ◌+◌, ◌*◌, ◌/◌, ◌%◌, ◌<◌, ◌++◌, ◌∙◌, ℕ, List, length, take, drop, zero-add, length-take, length-drop, ap, sym, arith}
use Rattle.poly1305.specs.Poly1305.{prime, accumulator, State}
use Rattle.poly1305.specs.Limbs.{value_of, r_value}
use Rattle.poly1305.proofs.AccumulatorLemmas.{after-short, after-absorbed}
use Rattle.poly1305.proofs.mac.Poly1305.update.Goals as goal

-- the state with the accumulator a, and then the blocks and the last bytes of `rest`
abbrev behind : ℕ → List ℕ → State → State
behind a rest m = record m {
  accumulator = accumulator m.r a rest (length rest / 16);
  rest = drop (16 * (length rest / 16)) rest;
}

pub returns-then-piece-self : goal.returns-then-piece-self
returns-then-piece-self c key text same =
    let mac = c.self.inside in
    let piece : List ℕ = c.args.piece.now in
    let kept : List ℕ = take mac.filled mac.buffer in
    let before = c.self.view_is ∙ same in
    let kept_is : kept ≡ drop (16 * (length text / 16)) text = ap (λ (m : State). m.rest) before in
    let short : length text % 16 + length piece < 16 =
    omega (arith, length-take mac.filled mac.buffer, ap length kept_is, length-drop (16 * (length text / 16)) text) in
    let view : State =
    record { r = r_value mac.r; s = mac.s; accumulator = value_of mac.accumulator % prime; rest = kept } in
    ap (λ rest. record view { rest = rest }) c.copy_behind.ensures
    ∙ ap (λ (m : State). record m { rest = m.rest ++ piece }) before ∙ sym (after-short key text piece short)

pub returns : goal.returns
returns c key text same =
    let mac = c.self.inside in
    let rest : List ℕ = c.absorb_begun.result.1.now in
    let tail : List ℕ = c.split_at.result.1.now in
    let last : List ℕ = c.copy_behind-2.new.buffer in
    let h = value_of c.absorb_begun.result.0 % prime in
    let left : take (length tail) last ≡ drop (16 * (length rest / 16)) rest =
    ap (λ n. take n last) (sym (zero-add (length tail))) ∙ c.copy_behind-2.ensures ∙ c.split_at.ensures.back
    ∙ ap (λ n. drop n rest) (omega arith) in
    let view : State = record { r = r_value mac.r; s = mac.s; accumulator = h; rest = rest } in
    ap (λ a. record view { accumulator = a; rest = take (length tail) last }) c.absorb_all-self-inside.ensures.value
    ∙ ap (λ bs. record view { accumulator = accumulator view.r h rest (length rest / 16); rest = bs }) left
    ∙ ap (behind h rest) (c.self.view_is ∙ same)
    ∙ sym (after-absorbed key (text ++ c.args.piece.now) h rest (c.absorb_begun.ensures.value key text same))
