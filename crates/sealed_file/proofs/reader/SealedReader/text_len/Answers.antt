use Rattle.std.proofs.Common.{◌∙◌}
use Rattle.sealed_file.specs.SealedReader.{file}
use Rattle.sealed_file.proofs.RangeLemmas.{length-read}
use Rattle.sealed_file.proofs.reader.SealedReader.text_len.Goals as goal

pub returns-clause-exact : goal.returns-clause-exact
returns-clause-exact g c text reads =
    let self = c.args.self.now in
    c.text_len.ensures.value ∙ length-read (file self) self.len self.begins text reads
