use Rattle.std.proofs.Common.{ap₂, ◌∙◌, ◌++◌}
use Rattle.sarif.proofs.UriLaws.{percent_encode-path}
use Rattle.sarif.proofs.uris.uri_of.Goals as goal

pub returns : goal.returns
returns c =
    c.in_ok-append_to.ensures.ok
    ∙ ap₂ (λ a b. a ++ b) (c.in_ok-uri.ensures.ok ∙ c.head_of.ensures) (c.percent_encode.ensures.text ∙ percent_encode-path c.args.name.now)
