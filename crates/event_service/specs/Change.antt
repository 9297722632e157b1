-- A change of a sender's types or filters, as an item of its log.
use Rattle.lc_model.specs.Events.Log.{LogItem, FilterSet, FiltersReset, TypesSet}
use Rattle.event_service.specs.declared.sender.Change.{Change}
use Rattle.event_service.specs.declared.sender.Change.TheVariants.{Filter, Reset, Types}
use Rattle.event_service.specs.Types.{bits_of}

-- The log item of a change.
abbrev pub item_of : Change → LogItem
item_of (Filter id mask) = FilterSet id mask
item_of Reset = FiltersReset
item_of (Types types on) = TypesSet (bits_of types) on
