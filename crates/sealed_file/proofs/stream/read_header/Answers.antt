use Rattle.std.proofs.Common.{◌≡◌, arith, length-take, subst, take}
use Rattle.sealed_file.proofs.DecryptLemmas.{HasHeaderDamage, header-wrong}
use Rattle.sealed_file.proofs.HeaderLemmas.{header-read}
use Rattle.sealed_file.proofs.stream.read_header.Goals as goal

pub returns-in-Ok-salt_of-clause-right : goal.returns-in-Ok-salt_of-clause-right
returns-in-Ok-salt_of-clause-right g c =
    header-read _ _ c.fill.new.buf c.in-Ok-salt_of.salt c.in-Ok.n c.in-Ok.ensures.right c.fill.auto.buf
    c.in-Ok-salt_of.ensures.salt

pub returns-in-Err-salt_of-clause-damaged : goal.returns-in-Err-salt_of-clause-damaged
returns-in-Err-salt_of-clause-damaged g c damage is =
    let same : c.in-Err-salt_of.damage ≡ damage = (cc) in
    let wide = length-take c.in-Ok.n c.fill.new.buf in
    subst (HasHeaderDamage (g.R.Read.remaining c.args.reader.now)) same
    (header-wrong _ (g.R.Read.remaining c.fill.new.reader) (take c.in-Ok.n c.fill.new.buf) c.in-Err-salt_of.damage
    c.in-Ok.ensures.right (λ short. c.in-Ok.ensures.end (omega (arith, wide, short, c.fill.auto.buf)))
    c.in-Err-salt_of.ensures.damage)
