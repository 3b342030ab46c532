-- The forms in which a run is printed: 01's lines, or 02's sheet, U1.
use Rattle.std.specs.Prelude.{List, [], ◌++◌, ℕ}
use Rattle.activity_profile.specs.declared.ActivityProfileRegion.{ActivityProfileRegion}
use Rattle.region_text.specs.Text.{line_text, refusal_text}
use Rattle.region_sheet.specs.Row.{region_row}
use Rattle.region_sheet.specs.Pages.{rows_after, behind_row, page_end}
use Rattle.region_print.specs.declared.Form.{Form}
use Rattle.region_print.specs.declared.Form.TheVariants.{Listing, Sheet}

-- a region, and how what follows it is printed
abbrev pub region_text : Form → ActivityProfileRegion → List ℕ
region_text Listing r = line_text r
region_text (Sheet rows) r = region_row r ++ behind_row rows

abbrev pub after_region : Form → Form
after_region Listing = Listing
after_region (Sheet rows) = Sheet (rows_after rows)

-- the end of all regions: that of the page that is open, where there is one
abbrev pub end_text : Form → List ℕ
end_text Listing = []
end_text (Sheet rows) = page_end rows

abbrev pub ended : Form → Form
ended Listing = Listing
ended (Sheet rows) = Sheet 0

-- "where the words are refused, the refusal line follows the last page"
abbrev pub stop_text : Form → ℕ → ℕ → List ℕ
stop_text form n i = end_text form ++ refusal_text n i
