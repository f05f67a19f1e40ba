use Rattle.std.proofs.Common.{◌∙◌}
use Rattle.std.proofs.lemmas.List.{get_or-set_other}
use Rattle.chacha_base.proofs.RowLemmas.{words-written}
use Rattle.chacha_base.proofs.rounds.quarter_round.Goals as goal

pub returns-clause-words : goal.returns-clause-words
returns-clause-words c =
    words-written c.args.state.now (c.args.a, c.args.b, c.args.c, c.args.d) c.quarter_words-new_a.result c.told-state
    c.requires.within c.requires.apart ∙ c.quarter_words-new_a.ensures

-- answered for speed
pub returns-clause-others : goal.returns-clause-others
returns-clause-others c i a b d e =
    get_or-set_other _ c.args.d i _ 0 e ∙ get_or-set_other _ c.args.c i _ 0 d ∙ get_or-set_other _ c.args.b i _ 0 b
    ∙ get_or-set_other _ c.args.a i _ 0 a
