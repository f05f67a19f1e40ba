use Rattle.std.proofs.Common.{◌≡◌, ◌++◌, ◌∷◌, [], ◌∙◌, Bool, true, false, replicate, refl, sym, ap, ap₂, append-nil}
use Rattle.chacha20.proofs.StdLemmas.{put_mid-at}
use Rattle.sealed_file.proofs.NonceLemmas.{mark, nonce-same}
use mir.Val.{bool_byte}
use Rattle.sealed_file.proofs.chunk.chunk_nonce.Goals as goal

mark-is : (last : Bool) → bool_byte last ≡ mark last
mark-is true = refl
mark-is false = refl

pub returns-clause-value : goal.returns-clause-value
returns-clause-value c =
    let number = c.copy_from_slice in
    let salt = c.copy_from_slice-2 in
    let end = c.copy_from_slice-3 in
    put_mid-at 19 5 salt.new.self (replicate 5 0) end.new.self salt.ensures.len
    ∙ ap₂ ◌++◌ salt.ensures.after
    (append-nil end.new.self ∙ end.ensures.after ∙ ap₂ ◌++◌ (number.ensures.after ∙ c.to_be_bytes.ensures)
    (ap (λ m. m ∷ []) (mark-is c.args.last)))

pub returns-clause-distinct : goal.returns-clause-distinct
returns-clause-distinct c other i is_last long fits same =
    nonce-same other c.args.salt.now i c.args.number is_last c.args.last (long ∙ sym c.told-salt) fits c.requires
    (same ∙ returns-clause-value c)
