use Rattle.std.proofs.Common.{◌+◌, ◌*◌, ◌%◌, arith}
use Rattle.std.proofs.lemmas.List.FromFn.{fill_by_all}
use Rattle.examples.proofs.own_core.ToyStreamCipherCore.write_block_counted.Goals as goal

pub returns-clause-block : goal.returns-clause-block
returns-clause-block c =
    let toy = c.args.self.now in
    fill_by_all (λ i. (toy.seed + 100 * toy.counter + i) % 256) c.loop-i.block 64 0 c.loop-i.invariant.whole
    (λ k h. c.loop-i.invariant.done k (omega arith))
