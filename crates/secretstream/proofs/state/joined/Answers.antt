use Rattle.std.proofs.Common.{◌++◌, ◌∙◌, replicate, arith, ap, ap₂, append-nil, length, length-append}
use Rattle.chacha20.proofs.StdLemmas.{put_mid-at}
use Rattle.secretstream.proofs.state.joined.Goals as goal

pub returns-clause-bytes : goal.returns-clause-bytes
returns-clause-bytes c =
    let front = c.copy_from_slice in
    let back = c.copy_from_slice-2 in
    put_mid-at 32 8 front.new.self (replicate 8 0) back.new.self front.ensures.len
    ∙ ap₂ ◌++◌ front.ensures.after (append-nil back.new.self ∙ back.ensures.after)

pub returns-clause-long : goal.returns-clause-long
returns-clause-long c =
    let bytes = ap length (returns-clause-bytes c) in
    omega (arith, bytes, length-append c.args.key.now c.args.inner.now, c.told-key, c.told-inner)
