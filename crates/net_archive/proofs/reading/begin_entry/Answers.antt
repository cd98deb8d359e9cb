use Rattle.std.proofs.Common.{length, sym, ap, ◌∙◌, arith}
use Rattle.std.proofs.lemmas.{Bool.true≢false, List.length-map}
use Rattle.archive_text.specs.{Entries.entry_view, Texts.rows_before}
use Rattle.net_archive.proofs.FirstFaults.{too_many, few_entries}
use Rattle.net_archive.proofs.reading.begin_entry.Goals as goal

pub returns-then-are_many : goal.returns-then-are_many
returns-then-are_many c = λ v text at.
    too_many v text c.args.entries.now c.args.lines.now c.in-Some.name.now c.next_name.new.lines.rest c.requires.good at
    (let count = length-map c.as_slice.result.now entry_view in let same = ap length c.as_slice.ensures in let many =
    c.are_many.ensures.0 c.if-are_many.true in omega (arith, count, same, many))
    c.in-Some.ensures.form c.in-Some.ensures.line

pub returns : goal.returns
returns c = λ v text at. record {
  is_name = c.in-Some.ensures.form;
  may = record {
    fresh = λ among. true≢false (sym (c.has_name.ensures.1 among) ∙ c.if-has_name.false);
    few = let count = length-map c.as_slice.result.now entry_view in let same = ap length c.as_slice.ensures in
        let few = few_entries (length c.as_slice.result.now) c.are_many.result c.are_many.ensures.1 c.if-are_many.false in omega (arith, count, same, few);
  };
  at = c.in-Some.ensures.place text (rows_before v c.args.entries.now) at;
}
