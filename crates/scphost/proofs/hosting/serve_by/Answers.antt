use Rattle.std.proofs.Common.{◌∙◌, None, rules}
use Rattle.scphost.proofs.HostingLaws.{served_anew}
use Rattle.scphost.proofs.hosting.serve_by.Goals as goal

pub returns : goal.returns
returns g c =
    served_anew c.args.form.bytes None _ _ _ _ _ _ _ _ c.serve-ran.result _ (c.new-feed.ensures.server ∙ c.requires) c.new-feed.ensures.count (search rules) c.serve-ran.ensures c.print_end_of_host.ensures
