use Rattle.std.proofs.Common.{◌≡◌, ℕ, ◌<◌, List, Some, ◌∙◌, length, map, get_or, refl, sym, ap, arith}
use Rattle.std.specs.Prelude.{slice_get}
use Rattle.std.proofs.lemmas.List.{length-map}
use Rattle.std.proofs.lemmas.Option.{slice_get-get_or, slice_get_past}
use Rattle.ln_tree.specs.declared.items.Site.{Site}
use Rattle.ln_tree.specs.declared.items.Coord.{Coord}
use Rattle.ln_tree.specs.Table.{site_of, coord_of}
use Rattle.ln_parse.proofs.Building.LaidOut.{coords_few}
use Rattle.ln_parse.proofs.Texts.Putting.{found, missing}
use Rattle.ln_parse.proofs.layout.coords_of.Goals as goal

-- what is read at an index is there
there : (sites : List Site) (t : ℕ) (x : Site) → t < length sites → x ≡ get_or sites t x → slice_get (map site_of sites) t ≡ Some (site_of x)
there sites t x l e = found site_of sites t t refl (ap (λ (w : Site). Some w) e ∙ sym (slice_get-get_or sites t x l))

pub returns-in-Some-clause-coords : goal.returns-in-Some-clause-coords
returns-in-Some-clause-coords c =
    let h = c.in-Some.ensures.lookup in
    rw (there c.args.sites.now c.args.t _ h.3.0 (h.3.1 c.in-Some.site.now)) (ap (λ (w : List Coord). map coord_of w) c.as_slice.ensures)

pub returns-in-Some-clause-few : goal.returns-in-Some-clause-few
returns-in-Some-clause-few c =
    let h = c.in-Some.ensures.lookup in
    let x = c.in-Some.site.now in
    let f = rw (there c.args.sites.now c.args.t x h.3.0 (h.3.1 x)) at (coords_few (map site_of c.args.sites.now) c.args.t c.requires.good) in
    let m = length-map x.coords coord_of in
    let n = ap (λ (w : List Coord). length w) c.as_slice.ensures in
    omega arith

pub returns-in-None-clause-coords : goal.returns-in-None-clause-coords
returns-in-None-clause-coords c =
    let h = c.in-None.ensures.lookup in
    rw (missing site_of c.args.sites.now c.args.t _ refl (sym (slice_get_past c.args.sites.now c.args.t h.3))) refl
