use Rattle.chacha20.proofs.xchacha.XChaChaCoreStreamCipherCore.write_block_counted.Goals as goal

pub returns : goal.returns
returns g c = rw (← c.self.view_is) c.write_block_counted.ensures
