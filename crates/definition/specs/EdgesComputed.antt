-- All cases but Place's hold, by computing alone. A theorem, nothing to believe.
use Rattle.std.specs.Prelude.{◌≡◌, refl, List, [], ◌∷◌, map}
use Rattle.definition.specs.Texts.{Text, bytes, lines_of, ended, fields_of, is_number, value_from, digits_in, digits}
use Rattle.definition.specs.Job.{first_failing, header_in_range, header_refusal, header_of}
use Rattle.definition.specs.Job.{layouts_of, cell_of, rest_in_range, cell_refusal, read_cells, read_lines, read_job}
use Rattle.definition.specs.Placement.{is_pose, pose_of, read_poses, read_placement}
use Rattle.definition.specs.Rules.{put, sort, order, place_in, is_first, is_last}
use Rattle.definition.specs.Rules.{beside_one_site, out_of_place, at_one_site_end}
use Rattle.definition.specs.Rules.{breaks1, breaks2, breaks3, breaks4, breaks5, breaks6, breaks7, breaks8}
use Rattle.definition.specs.Rules.{lowest, first_broken, verdict}
use Rattle.definition.specs.Cost.{differing, steps_at, steps_in, steps_by, shifted, mirrored, changed, cost}
use Rattle.definition.specs.Cost.{total_shift, hundredths, drift}
use Rattle.definition.specs.Outcome.{Outcome, first_of, outcome_of, number_count, numbers, score_fields, score}
use Rattle.definition.specs.Draws.{seeded, next, drawn, drawn_all}
use Rattle.definition.specs.Load.{largest, numbers_drawn, listed, load_of, load_refusal, load}
use Rattle.definition.specs.Reasons.{reason_of, cells_named, sentence, room_refusal, reasons}
use Rattle.definition.specs.Edges.{Case, scoring, placing, loading, reasoning, charging, averaging}
use Rattle.definition.specs.Edges.{edges}

-- a name that opens the definitions, so that texts compute
unfoldable pub opened : Text → Text → Outcome
unfolding bytes lines_of ended fields_of is_number value_from
    first_failing header_in_range header_refusal header_of
    layouts_of cell_of rest_in_range cell_refusal read_cells read_lines read_job
    is_pose pose_of read_poses read_placement
    put sort order place_in is_first is_last
    beside_one_site out_of_place at_one_site_end
    breaks1 breaks2 breaks3 breaks4 breaks5 breaks6 breaks7 breaks8
    lowest first_broken verdict
    differing steps_at steps_in steps_by shifted mirrored changed cost
    total_shift drift
    first_of outcome_of number_count numbers score_fields score
    digits_in digits seeded next drawn drawn_all
    largest numbers_drawn listed load_of load_refusal load
    reason_of cells_named sentence room_refusal reasons
opened job placement = score job placement

-- the cases of a list but Place's
abbrev pub AllComputed : List Case → Type 0
AllComputed [] = Unit {0}
AllComputed (scoring job placement Expected ∷ cs) = Expected (score (bytes job) (bytes placement)) × AllComputed cs
AllComputed (placing job Expected ∷ cs) = AllComputed cs
AllComputed (loading seed cells room Expected ∷ cs) = Expected (load seed cells room) × AllComputed cs
AllComputed (reasoning job placement room Expected ∷ cs) =
    Expected (reasons (bytes job) (bytes placement) room) × AllComputed cs
AllComputed (charging f gaps expected ∷ cs) = (map f gaps ≡ expected) × AllComputed cs
AllComputed (averaging cells shifts expected ∷ cs) = (map (λ s. hundredths s cells) shifts ≡ expected) × AllComputed cs

infixr 4 ◌&◌
unfoldable pub ◌&◌ : {A B : Type 0} → A → B → A × B
a & b = (a, b)

pub edges_computed : AllComputed edges
unfolding opened ◌&◌
edges_computed =
    ((refl, refl), refl) & ((refl, refl), refl) & ((refl, refl), refl) & ((refl, refl), refl)
    & (refl, refl)
    & (refl, refl) & (refl, refl) & (refl, refl) & (refl, refl)
    & (refl, refl) & (refl, refl)
    & (refl, refl) & (refl, refl) & (refl, refl)
    & ((refl, refl), refl)
    & ((refl, refl), refl) & ((refl, refl), refl) & ((refl, refl), refl)
    & (refl, refl) & ((refl, refl), refl) & ((refl, refl), refl) & (refl, refl)
    & ((refl, refl), refl) & ((refl, refl), refl) & (refl, refl)
    & (refl, refl)
    & (refl, refl) & ((refl, refl), refl) & ((refl, refl), refl) & ((refl, refl), refl) & ((refl, refl), refl)
    & (refl, refl) & ((refl, refl), refl)
    & ((refl, refl), refl) & ((refl, refl), refl) & ((refl, refl), refl)
    & refl & refl & refl & refl & refl & refl
    & (refl, refl) & (refl, refl) & (refl, refl) & (refl, refl)
    & (refl, refl) & (refl, refl) & (refl, refl) & (refl, refl)
    & (refl, refl) & (refl, refl) & (refl, refl) & (refl, refl) & (refl, refl)
    & refl & ((refl, refl), refl)
    & (refl, refl) & ((refl, refl), refl) & (refl, refl)
    & refl & refl
    & ((((refl, refl), refl), refl), refl) & ((((refl, refl), refl), refl), refl) & (((refl, refl), refl), refl)
    & (refl, refl) & (refl, refl) & (refl, refl) & (refl, refl)
    & ((refl, refl), refl) & ((refl, refl), refl) & refl & refl
    & tt
