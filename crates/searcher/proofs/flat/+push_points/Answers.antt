use Rattle.certificate.specs.Views.{bound_of}
use Rattle.texts.specs.Views.{name_of}
use Rattle.searcher.proofs.Behind.{point_next}
use Rattle.searcher.proofs.flat.+push_points.Goals as goal

pub returns-in_ok-push_block-in-len1-up : goal.returns-in_ok-push_block-in-len1-up
returns-in_ok-push_block-in-len1-up t c =
    point_next (name_of c.args.name.now) (bound_of c.args.bound.now) c.args.point c.args.code.now c.push_points.result c.push_points.new.cert c.args.cert.now c.push_block.new.cert
    c.in-len1-up.len_at_least c.in_ok-push_block-in-len1-up.ensures c.push_points.ensures
