-- Copies as they are kept: the octets of all of them one after another, and of each a slot that says which are its own.
use Rattle.std.specs.Prelude.{ℕ, ◌+◌, ◌≤◌, false, true, All, List, [], get_or, map, slice_range}
use Rattle.dt_flow_model.specs.Frames.{Mark}
use Rattle.dt_world_model.specs.World.{Copy}
use Rattle.dt_notes.specs.declared.copies.LinkCopy.{LinkCopy}
use Rattle.dt_notes.specs.declared.copies.CopySlot.{CopySlot}

abbrev pub copy_of : List ℕ → CopySlot → Copy
copy_of octets slot =
    record {
      link = slot.link;
      parcel = record { octets = slice_range octets slot.start (slot.start + slot.length); tag = record { birth = slot.birth; place = slot.place } };
      put = slot.put;
      lost = slot.lost;
    }

abbrev pub copies_of : List ℕ → List CopySlot → List Copy
copies_of octets slots = map (copy_of octets) slots

-- the octets of each slot are there
abbrev pub IsWithin : ℕ → CopySlot → Type 0
IsWithin most slot = slot.start + slot.length ≤ most

abbrev pub AreWithin : ℕ → List CopySlot → Type 0
AreWithin most slots = All (IsWithin most) slots

-- what stands for a copy that isn't there: a lost one
abbrev pub no_copy : Copy
no_copy = record { link = 0; parcel = record { octets = []; tag = record { birth = 0; place = 0 } }; put = 0; lost = true }

abbrev pub copy_in : List Copy → ℕ → Copy
copy_in copies number = get_or copies number no_copy

-- a copy that was looked at
abbrev pub copy_seen : LinkCopy → Copy
copy_seen c = record { link = c.link; parcel = record { octets = c.octets.now; tag = record { birth = c.birth; place = c.place } }; put = c.put; lost = c.lost }

-- a copy that is put on a link
abbrev pub put_copy : (link : ℕ) (octets : List ℕ) (mark : Mark) (put : ℕ) → Copy
put_copy link octets mark put = record { link = link; parcel = record { octets = octets; tag = mark }; put = put; lost = false }

abbrev pub lost_copy : Copy → Copy
lost_copy c = record c { lost = true }
