-- Of `answer_on`: what it ensures.
use Rattle.std.proofs.Common.{◌≡◌, Result, Ok, Err, arith, ap, subst, ◌∙◌}
use Rattle.std.proofs.lemmas.Result.{err_from_is_err_and}
use Rattle.std.specs.{Prelude.IsErrOf, Result.IsErrAnd}
use Rattle.cgd_read.specs.declared.block.ReadRefusal.{ReadRefusal}
use Rattle.cgd_read.specs.declared.block.ReadRefusal.TheVariants as read
use Rattle.cgd_read.specs.Views.{views}
use Rattle.command_words.specs.Views.{blocks_view}
use Rattle.net_report.specs.{Statuses.no_memory, Statuses.silence_of, declared.answer.Answer.Answer, declared.answer.Silence.Silence}
use Rattle.net_report.specs.declared.answer.Silence.TheVariants.{TooManyBlocks}
use Rattle.archive_answers.specs.ArchiveBytes.{IsArchiveOrText, bytes_in}
use Rattle.answers.{specs.Due.IsDueFor, proofs.MadeBlocks.due_for}
use Rattle.answers.proofs.answer.answer_on.Goals as goal

-- if memory runs out, there are not too many blocks
not_many : (r : Result Answer Silence) → IsErrAnd r (λ e. e ≡ no_memory) → ¬ IsErrOf r TooManyBlocks
not_many (Ok a) h many = absurd h
not_many (Err e) h many = grind arith

-- a refusal of too many blocks is handed on
many_told : (r : Result Answer Silence) (refusal : ReadRefusal) → IsErrAnd r (λ e. e ≡ silence_of refusal) → IsErrOf r TooManyBlocks
    → refusal ≡ read.TooManyBlocks
many_told (Ok a) refusal h many = absurd h
many_told (Err e) refusal h many = grind arith

pub returns-in_err-found : goal.returns-in_err-found
returns-in_err-found c =
    let at = c.from_residual in let refusal = c.in_err-found.field-0.0 in let told = err_from_is_err_and at.result at.ensures.1 in
    record {
      due = rw told.1 tt;
      many = λ many. c.in_err-found.ensures.too_many (ap (λ e. Err e) (many_told at.result refusal at.ensures.1 many));
    }

pub returns-in_err-archive : goal.returns-in_err-archive
returns-in_err-archive c =
    let at = c.from_residual-in_err-archive in let told = err_from_is_err_and at.result at.ensures.1 in
    record { due = rw told.1 tt; many = λ many. absurd (not_many at.result at.ensures.1 many) }

pub returns-in_err-answer_for-in-Ok : goal.returns-in_err-answer_for-in-Ok
returns-in_err-answer_for-in-Ok c =
    let at = c.from_residual-in_err-answer_for-in-Ok in let told = err_from_is_err_and at.result at.ensures.1 in
    record { due = rw told.1 tt; many = λ many. absurd (not_many at.result at.ensures.1 many) }

pub returns-in-Ok : goal.returns-in-Ok
returns-in-Ok c =
    let task = blocks_view c.args.task.now in let a = c.in_ok-answer_for-in-Ok.field-0 in let archive = c.in-Ok.archive in
    let is = subst (IsArchiveOrText c.args.archive) c.in-Ok.is c.in_ok-archive.ensures in
    let due = subst (λ blocks. IsDueFor task blocks archive a.status a.text.items) (ap views c.deref.ensures.value ∙ c.in_ok-found.ensures.blocks)
    c.in_ok-answer_for-in-Ok.ensures.answer in
    record {
      due = due_for task c.args.bytes.now (bytes_in c.args.archive) archive a.status a.text.items c.in_ok-found.ensures.few is due;
      many = λ many. absurd (search arith);
    }

pub returns : goal.returns
returns c = record {
  due = (c.in_ok-found.ensures.few, subst (IsArchiveOrText c.args.archive) c.in-Err.is c.in_ok-archive.ensures);
  many = λ many. absurd (search arith);
}
