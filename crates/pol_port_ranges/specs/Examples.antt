-- What is said of a few ports, for the law that computes.
use Rattle.std.specs.Prelude.{ℕ, ◌==◌, true, false, nat_lt, None, Some, if◌then◌else◌}
use Rattle.pol_mapkey.specs.declared.Word.TheVariants.{Allowed, DeniedByRule, DeniedByDefault}
use Rattle.pol_port_ranges.specs.declared.said.Halves.{Halves}
use Rattle.pol_port_ranges.specs.declared.said.PortSaid.{PortSaid}

abbrev pub open_halves : Halves
open_halves = record { sent = Allowed; received = Allowed }

-- shut by the target alone, by a rule and by default
abbrev pub barred : Halves
barred = record { sent = Allowed; received = DeniedByRule }

abbrev pub unasked : Halves
unasked = record { sent = Allowed; received = DeniedByDefault }

-- a change from the first to the second
abbrev pub change : Halves → Halves → PortSaid
change before after = record { before = Some before; after = after; halves = false }

-- the same, where halves are told
abbrev pub by_halves : Halves → Halves → PortSaid
by_halves before after = record { before = Some before; after = after; halves = true }

-- a state alone
abbrev pub alone : Halves → PortSaid
alone halves = record { before = None; after = halves; halves = false }

-- a deny of port 2, which is taken out of what was allowed
abbrev pub port_2_shuts : ℕ → PortSaid
port_2_shuts port = if port == 2 then change open_halves barred else change open_halves open_halves

-- ports below 2 open that a rule barred, and the others open that nothing allowed
abbrev pub all_open : ℕ → PortSaid
all_open port = if nat_lt port 2 then change barred open_halves else change unasked open_halves

-- port 2 stays shut, with another word, and the others open
abbrev pub all_open_but_2 : ℕ → PortSaid
all_open_but_2 port = if port == 2 then change unasked barred else change unasked open_halves

-- the same, where halves are told
abbrev pub all_open_but_2_by_halves : ℕ → PortSaid
all_open_but_2_by_halves port = if port == 2 then by_halves unasked barred else by_halves unasked open_halves

-- of ports from 2 on another half shuts
abbrev pub shut_otherwise : ℕ → PortSaid
shut_otherwise port = if nat_lt port 2 then by_halves barred barred else by_halves barred unasked

-- a state in which all ports but 2 are open
abbrev pub open_but_2 : ℕ → PortSaid
open_but_2 port = if port == 2 then alone barred else alone open_halves
