-- What a receiver takes of a list of messages. `pull` takes one by one: its clauses `accepted`, `message` and `next`
-- are `Taken` of a list of one.
use Rattle.std.proofs.Common.{◌≡◌, ◌≤◌, ◌∙◌, ◌∷◌, ◌++◌, ◌^◌, ◌+◌, ℕ, zero, suc, List, [], length, take, arith, refl, sym, ap, ap₂, subst}
use Rattle.std.specs.List.{All}
use Rattle.secretstream.specs.Stream.{State, message_of, IsMessage}
use Rattle.secretstream.specs.Lists.{Item, Coming, after_one, sent, after_all, Taken, IsComplete, EndsOnce}
use Rattle.secretstream.proofs.MessageLemmas.{message_of-same}

-- items with equal parts
same-item : (m n : Item) → m.aad ≡ n.aad → (m.tag ≡ n.tag) × (m.text ≡ n.text) → m ≡ n
same-item m n data_same same =
    ap₂ (λ (a : List ℕ) (p : ℕ × List ℕ). record { aad = a; tag = p.0; text = p.1 }) data_same
    (ap₂ (λ t x. (t, x)) same.0 same.1)

-- a message is taken for what it was made from
first-same : (s : State) (m n : Item) → m.aad ≡ n.aad
    → message_of s m.aad m.tag m.text ≡ message_of s n.aad n.tag n.text → m ≡ n
first-same s m n data_same bytes =
    same-item m n data_same
    (message_of-same s n.aad m.tag n.tag m.text n.text
    (ap (λ a. message_of s a m.tag m.text) (sym data_same) ∙ bytes))

-- what was sent is taken, for what it was made from
pub sent-taken : (s : State) (ms : List Item) → All (λ (m : Item). 128 + length m.text ≤ 2 ^ 38) ms
    → Taken s (sent s ms) ms
sent-taken s [] all = tt
sent-taken s (m ∷ ms) all =
    let rest : All (λ (m : Item). 128 + length m.text ≤ 2 ^ 38) ms = λ k d less. all (suc k) d (omega (arith, less)) in
    (all 0 m (omega arith), refl, refl, sent-taken (after_one s m) ms rest)

-- what is taken whole is what some sender in this state sends: any other list is refused somewhere
pub taken-sent : (s : State) (cs : List Coming) (ms : List Item) → Taken s cs ms → cs ≡ sent s ms
taken-sent s [] [] taken = refl
taken-sent s (c ∷ cs) (m ∷ ms) taken =
    ap₂ ◌∷◌
    (ap₂ (λ (a b : List ℕ). record { aad = a; bytes = b }) taken.1 taken.2)
    (taken-sent (after_one s m) cs ms taken.3)
taken-sent s [] (m ∷ ms) taken = absurd taken
taken-sent s (c ∷ cs) [] taken = absurd taken

-- and for one list only
pub taken-same : (s : State) (cs : List Coming) (ms ns : List Item) → Taken s cs ms → Taken s cs ns → ms ≡ ns
taken-same s [] [] [] one other = refl
taken-same s (c ∷ cs) (m ∷ ms) (n ∷ ns) one other =
    let item = first-same s m n (sym one.1 ∙ other.1) (sym one.2 ∙ other.2) in
    ap₂ ◌∷◌ item
    (taken-same (after_one s n) cs ms ns (subst (λ (k : Item). Taken (after_one s k) cs ms) item one.3) other.3)
taken-same s [] [] (n ∷ ns) one other = absurd other
taken-same s [] (m ∷ ms) ns one other = absurd one
taken-same s (c ∷ cs) [] ns one other = absurd one
taken-same s (c ∷ cs) (m ∷ ms) [] one other = absurd other

-- the first wrong one: behind what was sent, bytes that aren't the next message of any text are refused, whatever
-- follows them
pub wrong-refused : (s : State) (ms : List Item) (wrong : Coming) (rest : List Coming) (ns : List Item)
    → (IsMessage (after_all s ms) wrong.aad wrong.bytes → ⊥) → Taken s (sent s ms ++ wrong ∷ rest) ns → ⊥
wrong-refused s [] wrong rest [] never taken = taken
wrong-refused s [] wrong rest (n ∷ ns) never taken =
    never (n.tag, n.text, taken.0, taken.2 ∙ ap (λ a. message_of s a n.tag n.text) (sym taken.1))
wrong-refused s (m ∷ ms) wrong rest [] never taken = taken
wrong-refused s (m ∷ ms) wrong rest (n ∷ ns) never taken =
    let item = first-same s m n taken.1 taken.2 in
    wrong-refused (after_one s m) ms wrong rest ns never
    (subst (λ (k : Item). Taken (after_one s k) (sent (after_one s m) ms ++ wrong ∷ rest) ns) (sym item) taken.3)

-- a front of a stream that ends once, if it is taken and complete, is the whole stream
pub cut-incomplete : (s : State) (ms : List Item) (k : ℕ) (ns : List Item) → EndsOnce ms
    → Taken s (take k (sent s ms)) ns → IsComplete ns → ns ≡ ms
cut-incomplete s [] k ns ends taken complete = absurd ends
cut-incomplete s (m ∷ ms) zero [] ends taken complete = absurd complete
cut-incomplete s (m ∷ ms) zero (n ∷ ns) ends taken complete = absurd taken
cut-incomplete s (m ∷ ms) (suc k) [] ends taken complete = absurd complete
cut-incomplete s (m ∷ []) (suc zero) (n ∷ []) ends taken complete =
    ap (λ k. k ∷ []) (sym (first-same s m n taken.1 taken.2))
cut-incomplete s (m ∷ []) (suc (suc k)) (n ∷ []) ends taken complete =
    ap (λ k. k ∷ []) (sym (first-same s m n taken.1 taken.2))
cut-incomplete s (m ∷ []) (suc zero) (n ∷ o ∷ ns) ends taken complete = absurd taken.3
cut-incomplete s (m ∷ []) (suc (suc k)) (n ∷ o ∷ ns) ends taken complete = absurd taken.3
cut-incomplete s (m ∷ l ∷ ms) (suc k) (n ∷ []) ends taken complete =
    absurd (ends.0 (ap (λ (i : Item). i.tag) (first-same s m n taken.1 taken.2) ∙ complete))
cut-incomplete s (m ∷ l ∷ ms) (suc k) (n ∷ o ∷ ns) ends taken complete =
    let item = first-same s m n taken.1 taken.2 in
    ap₂ ◌∷◌ (sym item)
    (cut-incomplete (after_one s m) (l ∷ ms) k (o ∷ ns) ends.1
    (subst (λ (i : Item). Taken (after_one s i) (take k (sent (after_one s m) (l ∷ ms))) (o ∷ ns)) (sym item) taken.3)
    complete)
