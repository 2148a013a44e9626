-- Each port so far has its number, and there are as many as were counted.
use Rattle.std.proofs.Common.{◌≡◌}
use Rattle.std.specs.Prelude.{vec_len}
use Rattle.running.specs.Ports.{ArePorts}
use Rattle.wires.specs.SocketPorts.{told_reception}
use Rattle.wires.specs.TcpPorts.{told_local}
use Rattle.running.proofs.ports.local_ports.Given as goal

abbrev pub invariant-loop-at : goal.invariant-loop-at
invariant-loop-at g l = record {
  ports : ArePorts (told_reception told_local) l.first l.ports.items;
  count : vec_len l.ports ≡ l.at;
}
