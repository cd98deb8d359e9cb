use Rattle.std.proofs.Common.{sym, ◌∙◌}
use Rattle.cgd_lex.proofs.Ends.{quote_closed, quote_open, quote_none}
use Rattle.cgd_lex.proofs.bytes.quoted.Goals as goal

pub returns-in-None-clause-closed : goal.returns-in-None-clause-closed
returns-in-None-clause-closed c = sym (quote_none c.args.bytes.now (sym c.quote_end.ensures ∙ c.in-None.is)).0

pub returns-in-None-clause-size : goal.returns-in-None-clause-size
returns-in-None-clause-size c = sym (quote_none c.args.bytes.now (sym c.quote_end.ensures ∙ c.in-None.is)).1

pub returns-then-bytes-end-eq34-clause-closed : goal.returns-then-bytes-end-eq34-clause-closed
returns-then-bytes-end-eq34-clause-closed c =
    sym (quote_closed c.args.bytes.now c.in-Some.end 0 (sym c.quote_end.ensures ∙ c.in-Some.is) c.if-bytes-end-eq34.true).0

pub returns-then-bytes-end-eq34-clause-size : goal.returns-then-bytes-end-eq34-clause-size
returns-then-bytes-end-eq34-clause-size c =
    sym (quote_closed c.args.bytes.now c.in-Some.end 0 (sym c.quote_end.ensures ∙ c.in-Some.is) c.if-bytes-end-eq34.true).1

pub returns-else-bytes-end-eq34-clause-closed : goal.returns-else-bytes-end-eq34-clause-closed
returns-else-bytes-end-eq34-clause-closed c =
    sym (quote_open c.args.bytes.now c.in-Some.end 0 (sym c.quote_end.ensures ∙ c.in-Some.is) c.if-bytes-end-eq34.false).0

pub returns-else-bytes-end-eq34-clause-size : goal.returns-else-bytes-end-eq34-clause-size
returns-else-bytes-end-eq34-clause-size c =
    sym (quote_open c.args.bytes.now c.in-Some.end 0 (sym c.quote_end.ensures ∙ c.in-Some.is) c.if-bytes-end-eq34.false).1
