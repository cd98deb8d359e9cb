use Rattle.std.proofs.{Common.[], Common.refl, Common.sym, Common.◌∙◌, lemmas.Bool.true≢false}
use Rattle.net_certificate.specs.{Rows.OfTitle, Stages.Start}
use Rattle.net_certificate.proofs.Places.{no_title, row_in, bad_in}
use Rattle.net_certificate.proofs.reading.read_first.Goals as goal

pub returns-then-next_title-clause-first : goal.returns-then-next_title-clause-first
returns-then-next_title-clause-first c = λ text at. c.read_graph_after.ensures.first text
    (row_in text Start OfTitle c.args.lines.now c.next_title.new.lines (record { rows = []; walk = refl; at = at }) tt
    (λ rows from. c.next_title.ensures.place text rows from c.if-next_title.true))

pub returns-else-next_title-clause-first : goal.returns-else-next_title-clause-first
returns-else-next_title-clause-first c = λ text at. bad_in text Start c.args.lines.now c.number-line.result
    (record { rows = []; walk = refl; at = at }) c.number-line.ensures.number
    (no_title c.args.lines.now.rest (λ rest e. true≢false (sym (c.next_title.ensures.none rest e) ∙ c.if-next_title.false))) (λ may. absurd may)
