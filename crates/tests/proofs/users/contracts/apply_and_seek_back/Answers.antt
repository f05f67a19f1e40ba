use Rattle.std.proofs.Common.{◌∙◌, sym}
use Rattle.tests.proofs.users.contracts.apply_and_seek_back.Goals as goal

pub returns : goal.returns
returns g c =
    g.met.C.StreamCipher.determined _ _ (c.seek.ensures.fixed ∙ c.apply_keystream.ensures.fixed)
    (c.seek.ensures.position ∙ sym c.requires.position)
