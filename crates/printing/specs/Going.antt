-- What a program keeps from block to block of a listing.
use Rattle.std.specs.Prelude.{true, List, ◌≡◌, ℕ, ◌+◌, ◌≤◌, ◌<◌, length}
use Rattle.lines.specs.Texts.{bytes_of, room_of}
use Rattle.lines.specs.Putting.{most_text}
use Rattle.lister.specs.declared.Listing.{Listing}
use Rattle.lister.specs.Lister.{text_of, Kept, InOrder}

-- what is in order for a listing, and room for a month's text where it begins again with its list
pub record Going (l : Listing) : Type 0 where
  pub in_order : InOrder l
  pub room : most_text ≤ length (bytes_of (text_of l)) + room_of (text_of l)

-- a listing that was opened on an accepted file: it goes on, and no month is listed yet
pub record Begun (l : Listing) : Type 0 where
  pub going : Going l
  pub more : l.more ≡ true
  pub first : l.months ≡ 0

-- a block that was read, of a listing that goes on; the months are counted by the bytes, of which each takes some
pub record CanRead (block : List ℕ) (l : Listing) : Type 0 where
  pub going : Going l
  pub more : l.more ≡ true
  pub counted : l.months + length block < 18_446_744_073_709_551_615

-- what is kept when it has been listed
pub record Went (block : List ℕ) (l l' : Listing) : Type 0 where
  pub going : Going l'
  pub counted : l'.months ≤ l.months + length block
  pub kept : Kept l l'

-- Room was made in the text of a listing: no byte of its list is changed, nor anything but how many of them are written.
pub record RoomMade (l l' : Listing) : Type 0 where
  pub list : l'.list.now ≡ l.list.now
  pub board : l'.board.now ≡ l.board.now
  pub report : l'.report.now ≡ l.report.now
  pub months : l'.months ≡ l.months
  pub more : l'.more ≡ l.more
  pub kept : Kept l l'
