-- The host as its contracts see it: its applications by their states, and its services.
use Rattle.std.specs.Prelude.{ℕ, Bool, List, [], map, slice_index_or, Option, None, option_map}
use Rattle.lc_model.specs.Kept.Summary.{Other}
use Rattle.lc_model.specs.Kept.Executive.{Member, Executive}
use Rattle.lc_model.specs.Kept.Stations as model
use Rattle.lc_model.specs.Services.Bus.{seen}
use Rattle.app_host.specs.declared.services.Services.{Services}
use Rattle.app_host.specs.declared.host.Host.{Host}
pub use Rattle.app_host.specs.Object.{Object}
use Rattle.app_host.specs.Shared.{shared}

-- A placeholder, used where a list has no object at a place.
abbrev pub no_object : Object
no_object = record { called = []; state = Other; seat = None }

-- The object on seat number `seat`, or `None` if the seat is free.
abbrev pub object_at : ℕ → List (Option Object) → Option Object
object_at seat seats = slice_index_or seats seat None

-- The spare at place `i` of the stock.
abbrev pub spare_in : List Object → ℕ → Object
spare_in stock i = slice_index_or stock i no_object

-- The host: its spares, its eight seats, its services, whether a failed write has closed it, and the number of `on_packet` calls
-- for the last record.
pub record Hosted : Type 0 where
  pub stock : List Object
  pub seats : List (Option Object)
  pub services : Services
  pub is_closed : Bool
  pub calls : ℕ

-- The meanings of a list of applications.
abbrev pub objects_in : {B : Type 0} → (B → Object) → List B → List Object
objects_in meaning = map meaning

-- The meaning of the application on a seat, or `None` if the seat is free.
abbrev pub object_in : {B : Type 0} → (B → Object) → Option B → Option Object
object_in meaning = option_map meaning

-- The host with each application replaced by its meaning.
abbrev pub shown : {B : Type 0} → (B → Object) → Host B → Hosted
shown meaning h = record {
  stock = objects_in meaning h.stock.items;
  seats = map (object_in meaning) h.seats;
  services = h.services;
  is_closed = h.closed;
  calls = h.calls;
}

-- ---- as the host in numbers

-- The object's name and state, without its seat.
abbrev pub member_of : Object → Member
member_of o = record { called = o.called; state = o.state }

-- The executive of the model for these spares, seats and services.
abbrev pub executive_of : List Object → List (Option Object) → Services → Executive (List ℕ)
executive_of stock seats s = record { stock = map member_of stock; seats = map (option_map member_of) seats; pipes = seen s.bus; services = shared s }

-- The model's host in numbers for this host.
abbrev pub in_numbers : Hosted → model.Host (List ℕ)
in_numbers h = record { executive = executive_of h.stock h.seats h.services; is_closed = h.is_closed; calls = h.calls }
