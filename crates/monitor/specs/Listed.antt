-- What a monitor is opened over, in the model's words.
use Rattle.model.specs.Opening.{Listing, Terms}
use Rattle.monitor.specs.declared.listing.Listing.{Listing as Lent}
use Rattle.monitor.specs.declared.listing.Terms.{Terms as LentTerms}

-- what is watched, by the lists that are lent
abbrev pub listing_in : Lent → Listing
listing_in l = record { entities = l.entities; places = l.places; contracts = l.contracts.now; underlyings = l.underlyings.now }

-- that, and the limits
abbrev pub terms_in : LentTerms → Terms
terms_in t = record { listing = listing_in t.listing; limits = t.limits }
