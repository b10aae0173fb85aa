-- What an owned store holds: its row, how many numbers there are for the changes, and how much it may keep.
use Rattle.std.specs.Prelude.{◌≡◌, ℕ, List, length, replicate, vec_items}
use Rattle.visit.specs.declared.Terms.{Terms}
use Rattle.changes.specs.Room.{out_width}
use Rattle.store.specs.declared.capacity.Capacity.{Capacity}
use Rattle.store.specs.Contents.{empty_row}
use Rattle.store.specs.Layout.{store_size}
use Rattle.owned.specs.declared.state.OwnedStore.{OwnedStore}

abbrev pub row_of : OwnedStore → List ℕ
row_of s = vec_items s.row

abbrev pub out_long : OwnedStore → ℕ
out_long s = length (vec_items s.out)

abbrev pub capacity_of : OwnedStore → Capacity
capacity_of s = s.capacity

-- A store with nothing in it, under these terms and with this capacity.
pub record IsNew (t : Terms) (cap : Capacity) (s : OwnedStore) : Type 0 where
  pub row : row_of s ≡ empty_row t (replicate store_size 0)
  pub out : out_long s ≡ out_width
  pub capacity : capacity_of s ≡ cap
