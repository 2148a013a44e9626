-- A listener of the machine: what it tells.
use Rattle.std.specs.Prelude.{None, is_some}
use Rattle.wires.specs.declared.tcp_port.LocalListener.{LocalListener}
use Rattle.wires.specs.Listeners.{Lobby}

-- it tells no connection, but whether it is open, and whether a wire is out
abbrev pub told_local : {R : Type 0} → LocalListener R → Lobby
told_local l = record {
  number = l.number;
  is_open = is_some l.listener;
  came = None;
  let_go = None;
  gone = None;
  out = l.out;
}
