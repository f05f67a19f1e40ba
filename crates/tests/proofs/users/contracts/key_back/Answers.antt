use Rattle.std.proofs.Common.{[], ◌∷◌, inl, inr, refl, arith}
use Rattle.tests.proofs.users.contracts.key_back.Goals as goal

pub returns : goal.returns
returns c =
    c.key_of.ensures.line c.args.key.now (10 ∷ []) (λ i. let f = c.fits-key i in omega arith) c.told-key
    (inr (inl refl)) c.line_of.ensures
