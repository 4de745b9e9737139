use Rattle.live_host.proofs.ApartHosts as hosts
use Rattle.live_host.proofs.apart.hosts_are_alike_by_networks.Goals as goal

pub returns : goal.returns
returns c = record { hosts = hosts.hosts_are_alike_by_networks; networks = hosts.networks_of_alike_hosts_are_alike }
