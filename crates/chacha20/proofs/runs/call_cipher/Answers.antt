use Rattle.std.proofs.Common.{◌≡◌, List, ℕ, false, true, refl, arith, rules, to_z-of_z, SFits, w32}
use Rattle.chacha_base.specs.ChaCha.{xor_stream, stream_part}
use Rattle.chacha_base.specs.Cipher.{Cipher}
use Rattle.chacha20.specs.Runs.{setting}
use Rattle.chacha20.proofs.RunLemmas.{le-outcome-is, check-leaves, seek-leaves, seek_i32-is, wrote-is, wrote_from-is, pos-is, pos_i32-is}
use Rattle.chacha20.proofs.runs.call_cipher.Goals as goal

-- a cipher as the clauses see it
abbrev seen : {S : Type 0} → (S → List ℕ) → (S → ℕ) → S → Cipher
seen fixed position x = record { fixed = fixed x; position = position x }

pub returns-in-CheckRemaining : goal.returns-in-CheckRemaining
returns-in-CheckRemaining g c =
    rw c.in-CheckRemaining.is
    (le-outcome-is _ _ c.check_remaining.ensures.accepted (check-leaves c.answer.ensures))

pub returns-in-Apply : goal.returns-in-Apply
returns-in-Apply g c =
    let range = c.in-Apply in
    let s = setting g.S.Keystream.modulus g.S.Keystream.block_at c.args.input.now in
    let see = seen g.S.Keystream.fixed g.S.Keystream.position in
    let old = see c.args.cipher.now in
    rw range.is (wrote-is _ see _ _ _ range.at range.len s.limit
    (λ bytes n. xor_stream (s.stream old.fixed) old.position bytes) (rw range.is at c.requires.ranges)
    c.try_apply_keystream.ensures c.answer-in-Apply.ensures)

pub returns-in-Write : goal.returns-in-Write
returns-in-Write g c =
    let range = c.in-Write in
    let s = setting g.S.Keystream.modulus g.S.Keystream.block_at c.args.input.now in
    let see = seen g.S.Keystream.fixed g.S.Keystream.position in
    let old = see c.args.cipher.now in
    rw range.is (wrote-is _ see _ _ _ range.at range.len s.limit
    (λ bytes n. stream_part (s.stream old.fixed) old.position n) (rw range.is at c.requires.ranges)
    c.try_write_keystream.ensures c.answer-in-Write.ensures)

pub returns-in-ApplyFrom : goal.returns-in-ApplyFrom
returns-in-ApplyFrom g c =
    let range = c.in-ApplyFrom in
    let s = setting g.S.Keystream.modulus g.S.Keystream.block_at c.args.input.now in
    let see = seen g.S.Keystream.fixed g.S.Keystream.position in
    let old = see c.args.cipher.now in
    rw range.is (wrote_from-is _ see _ _ _ s.input range.from range.from_len range.at range.len s.limit
    (s.stream old.fixed) (rw range.is at c.requires.ranges) c.try_apply_keystream_b2b.ensures
    c.answer-in-ApplyFrom.ensures)

pub returns-in-Seek : goal.returns-in-Seek
returns-in-Seek g c =
    let said = c.try_seek.ensures in
    let see = seen g.S.Keystream.fixed g.S.Keystream.position in
    rw c.in-Seek.is (le-outcome-is _ _ said.accepted (seek-leaves see _ said c.answer-in-Seek.ensures))

pub returns-in-SeekI32 : goal.returns-in-SeekI32
returns-in-SeekI32 g c =
    let fits : SFits w32 c.in-SeekI32.position = search rules in
    let s = setting g.S.Keystream.modulus g.S.Keystream.block_at c.args.input.now in
    let see = seen g.S.Keystream.fixed g.S.Keystream.position in
    rw (c.in-SeekI32.is, ← to_z-of_z fits)
    (seek_i32-is s see _ _ _ _ c.try_seek-in-SeekI32.ensures c.answer-in-SeekI32.ensures)

pub returns-in-Ok : goal.returns-in-Ok
returns-in-Ok g c = rw c.in-Pos.is (pos-is _ c.in-Ok.ensures.value)

pub returns-in-Ok-try_current_pos : goal.returns-in-Ok-try_current_pos
returns-in-Ok-try_current_pos g c =
    let said = c.in-Ok-try_current_pos.ensures in
    rw c.in-PosI32.is (pos_i32-is _ (said.accepted.0 refl) said.value)

pub returns-in-Err : goal.returns-in-Err
returns-in-Err g c =
    let no : false ≡ true = c.in-Err.ensures.accepted.1 (omega (arith, c.in-Err.ensures.within, c.requires.limit)) in
    cc
