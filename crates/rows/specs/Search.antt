-- What a search asks of the rows that are searched.
use Rattle.rows.specs.declared.search.Search.{Search}
use Rattle.rows.specs.declared.search.Search.TheVariants.{ByHalves, FromFront}

-- From the front any rows may be searched, by halves only rows that are in order.
abbrev pub Allows : Search → Type 0 → Type 0
Allows FromFront ordered = Unit {0}
Allows ByHalves ordered = ordered
