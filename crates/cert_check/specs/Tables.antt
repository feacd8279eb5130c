-- How much room a check needs: a room a kind.
use Rattle.std.specs.Prelude.{ℕ, length}
use Rattle.decision_model.specs.declared.instance.Instance.{Instance}
use Rattle.decision_model.specs.declared.instance.Instance.TheVariants.{News, Lots, Finite, Average, Serial, Network}
use Rattle.decision_model.specs.declared.lots.LotSize.{LotSize}
use Rattle.decision_model.specs.declared.finite.Finite.{Finite as FiniteHorizon}
use Rattle.decision_model.specs.declared.average.Average.{Average as AverageCost}
use Rattle.decision_model.specs.declared.serial.Serial.{Serial as SerialSystem}
use Rattle.average_recursion.specs.Tables as of_average
use Rattle.finite_recursion.specs.Tables.{cells_needed, sums_needed}
use Rattle.serial_recursion.specs.Tables as of_serial
use Rattle.cert_check.specs.declared.tables.Room.{Room}

abbrev pub no_room : Room
no_room = record { cells = 0; sums = 0 }

-- a cell a period
abbrev pub lots_room : LotSize → Room
lots_room lots = record { cells = length lots.demand; sums = 0 }

-- what the recursion works in
abbrev pub finite_room : FiniteHorizon → Room
finite_room finite = record {
  cells = cells_needed finite;
  sums = sums_needed finite;
}

abbrev pub average_room : AverageCost → Room
average_room average = record {
  cells = of_average.cells_needed average;
  sums = of_average.sums_needed average;
}

abbrev pub serial_room : SerialSystem → Room
serial_room serial = record { cells = of_serial.cells_needed serial; sums = 0 }

-- the room that a check of the instance's kind needs: the one dispatch over kinds
abbrev pub room_of : Instance → Room
room_of (News newsvendor) = no_room
room_of (Lots lots) = lots_room lots
room_of (Finite finite) = finite_room finite
room_of (Average average) = average_room average
room_of (Serial serial) = serial_room serial
room_of (Network net) = no_room

-- the cells of a check
abbrev pub cell_count : Instance → ℕ
cell_count instance = (room_of instance).cells

-- the sums of a check
abbrev pub sum_count : Instance → ℕ
sum_count instance = (room_of instance).sums
