use Rattle.std.proofs.Common.{◌≡◌, ℕ, ◌*◌, ◌/◌, ◌^◌, ◌++◌, length, map, sym, ap, ap₂, ◌∙◌}
use Rattle.std.proofs.lemmas.List.{map-append}
use Rattle.chacha20.specs.Generator.{next_u64, repeated}
use Rattle.chacha20.proofs.RepeatedLemmas.{reads-add}
use Rattle.examples.proofs.simulation.fill_in_two.Goals as goal

pub returns-clause-value : goal.returns-clause-value
returns-clause-value g c =
    let number : ℕ → ℕ = λ word. word * c.args.bound / 2 ^ 64 in
    let read = next_u64 g.R.Rounds.COUNT in
    let k = length c.args.first.now in
    let m = length c.args.rest.now in
    let start = c.args.rng.now in
    let first = repeated read k start in
    let rest = repeated read m first.1 in
    let resumed : c.deserialize_state.result ≡ first.1 =
    c.deserialize_state.ensures.value ∙ c.serialize_state-stored.ensures.restored ∙ c.fill_below.ensures.moved in
    let ended : c.fill_below-2.new.numbers ≡ map number rest.0 =
    c.fill_below-2.ensures.value ∙ ap (λ h. map number (repeated read m h).0) resumed in
    ap₂ (λ xs ys. xs ++ ys) c.fill_below.ensures.value ended ∙ sym (map-append number first.0 rest.0)
    ∙ ap (λ draws. map number draws.0) (sym (reads-add read k m start))

pub returns-clause-moved : goal.returns-clause-moved
returns-clause-moved g c =
    let read = next_u64 g.R.Rounds.COUNT in
    let k = length c.args.first.now in
    let m = length c.args.rest.now in
    let start = c.args.rng.now in
    let resumed : c.deserialize_state.result ≡ (repeated read k start).1 =
    c.deserialize_state.ensures.value ∙ c.serialize_state-stored.ensures.restored ∙ c.fill_below.ensures.moved in
    c.fill_below-2.ensures.moved ∙ ap (λ h. (repeated read m h).1) resumed
    ∙ ap (λ draws. draws.1) (sym (reads-add read k m start))
