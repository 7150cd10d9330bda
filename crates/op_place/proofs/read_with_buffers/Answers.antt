-- Read's refusal, 6, 7, or the job.
use Prim.Native.Nat.{ℕ}
use mathlib.Core.Path.{◌≡◌}
use native.Mathlib.Omega.{arith}
use Rattle.definition.specs.Outcome.{store_for, store_needed}
use Rattle.job.specs.declared.Job.{Job}
use Rattle.job.specs.Value.{job_of, header_of}
use Rattle.job_read.specs.Reads.{reads-accepted, reads-refused}
use Rattle.op_place.specs.Answers.{text-refused, store-small, output-small}
use Rattle.std.proofs.lemmas.Result.{err_from_is_err_and}
use Rattle.op_place.proofs.read_with_buffers.Goals as goal

-- by the job's own reordering limit
asked : (job : Job) {words : ℕ} → words ≡ store_for job.header.reordering → words ≡ store_needed (job_of job)
unfolding job_of header_of
asked job e = e

pub returns-in_err-j : goal.returns-in_err-j
returns-in_err-j c =
    let p = err_from_is_err_and c.from_residual.result c.from_residual.ensures.1 in
    let s = c.in_err-j.ensures in
    rw (p.1, p.2) (text-refused c.args.job.now c.args.words c.args.room (omega (arith, s.refused.line)) (reads-refused s) s.refused.some)

pub returns-then-words-words_asked : goal.returns-then-words-words_asked
returns-then-words-words_asked c =
    let j = c.in_ok-j.j in
    store-small c.args.job.now c.args.words c.args.room j (reads-accepted c.in_ok-j.ensures)
    (omega (arith, c.if-words-words_asked.true, asked j c.store_needed-words_asked.ensures))

pub returns-then-room-bytes_asked : goal.returns-then-room-bytes_asked
returns-then-room-bytes_asked c =
    let j = c.in_ok-j.j in
    let all = c.in_ok-j.ensures.accepted.many in
    output-small c.args.job.now c.args.words c.args.room j (reads-accepted c.in_ok-j.ensures)
    (omega (arith, c.if-words-words_asked.false, asked j c.store_needed-words_asked.ensures))
    (omega (arith, c.if-room-bytes_asked.true, all))

pub returns : goal.returns
returns c =
    let j = c.in_ok-j.j in
    let all = c.in_ok-j.ensures.accepted.many in
    record {
      read = reads-accepted c.in_ok-j.ensures;
      taken = c.in_ok-j.ensures.accepted;
      store = omega (arith, c.if-words-words_asked.false, asked j c.store_needed-words_asked.ensures);
      output = omega (arith, c.if-room-bytes_asked.false, all);
    }
