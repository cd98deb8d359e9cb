use Rattle.std.{specs.Prelude.codes, proofs.lemmas.Result.on_ok_weaker}
use Rattle.net_certificate.{specs.ResultLines.fault_text, specs.ResultLines.site_text, proofs.WholeTexts.two_written}
use Rattle.net_certificate.proofs.checking.push_arc.Goals as goal

pub returns : goal.returns
unfolding fault_text
returns c = on_ok_weaker c.push_site-2.result (λ last. two_written c.args.text.now.items c.push_site.new.text.items c.push_site-2.new.text.items
    (site_text c.args.dim (codes " refused 5 Arc u=") c.args.u (codes " r=") c.args.r.now)
    (site_text c.args.dim (codes " v=") c.args.v (codes " s=") c.args.s.now) c.in_ok-push_site.ensures last) c.push_site-2.ensures
