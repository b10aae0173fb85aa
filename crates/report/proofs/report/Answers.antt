use Rattle.std.proofs.Common.{◌≡◌, IfSome, sym, ap, ◌∙◌, subst}
use Rattle.std.specs.Option.{option_map}
use Rattle.feed.specs.Files.{body, commands, unread}
use Rattle.report.proofs.report.Goals as goal

pub returns : goal.returns
returns g c =
    let s = c.in_ok-start.field-0 in
    let found = c.in_ok-terms.ensures.ok_part in
    let rest = subst (λ o. IfSome o (λ p. p.1.now ≡ body c.args.file.now)) found c.read_terms.ensures.rest in (
      c.in_ok-terms.terms,
      sym c.read_terms.ensures.value ∙ ap (option_map (λ p. p.0)) found,
      (s, c.in_ok-start.ensures, c.in_ok-run.ensures.text ∙ ap (λ bs. g.S.Sessions.prints s (commands bs)) rest),
      c.in_ok-run.ensures.rest ∙ ap unread rest,
    )
