-- Which network a line names, and which lines declare one.
use Rattle.std.proofs.Common.{refl}
use Rattle.line_request.specs.Forms.{form_in}
use Rattle.line_request.specs.declared.ask.Ask.TheVariants as ask
use Rattle.line_request.specs.declared.request.Declaration.TheVariants as declaration
use Rattle.live_shards.specs.Asked.{AskedNetworksAreNamed, OnlyNetsDeclareNetworks}
use Rattle.live_shards.proofs.Declared.{net_by_form}
use Rattle.live_shards.proofs.Named.{named_by_form}

pub asked_networks_are_named : AskedNetworksAreNamed
asked_networks_are_named fields g asked is = named_by_form (form_in fields) fields g asked is

pub only_nets_declare_networks : OnlyNetsDeclareNetworks
only_nets_declare_networks fields g budgets is = net_by_form (form_in fields) fields g (ask.Declare (declaration.Net budgets)) is refl
