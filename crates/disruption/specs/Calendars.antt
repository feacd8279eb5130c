-- What a calendar says, and when spans make none.
use Rattle.std.specs.Prelude.{◌≡◌, ℕ, List, Some, None}
use Rattle.network_model.specs.declared.network.Span.{Span}
use Rattle.network_model.specs.declared.network.Pause.{Pause}
use Rattle.network_model.specs.Pauses.{is_paused, overlapping_span}
use Rattle.disruption.specs.declared.calendar.CalendarErr.{CalendarErr}
use Rattle.disruption.specs.declared.calendar.CalendarErr.TheVariants.{Overlap, Memory}

-- two lists of spans pause the same at each node in each period
abbrev pub PausesAlike : List Span → List Span → Type 0
PausesAlike one other = (what : Pause) (node t : ℕ) → is_paused one what node t ≡ is_paused other what node t

-- an overlap is told exactly where there is one, by its first pause
abbrev pub IsRefusal : List Span → CalendarErr → Type 0
IsRefusal spans (Overlap place) = overlapping_span spans ≡ Some place
IsRefusal spans Memory = overlapping_span spans ≡ None
