-- What other rooms may cite of the proofs of this one. All other files here are private.

-- the tree of at most 2^h leaves is the tree of these leaves within height h
pub use Rattle.ats_tree.proofs.Trees.{of-within}
-- the tree within height h + 1 of more than 2^h leaves is cut after the first 2^h leaves
pub use Rattle.ats_tree.proofs.Trees.{within-cut}
-- at most 2^h leaves have the same tree within height h + 1 as within height h
pub use Rattle.ats_tree.proofs.Trees.{within-suc}
-- n is below 2^n
pub use Rattle.ats_tree.proofs.Trees.{below_power}
-- the tree of more than 2^h leaves, and at most twice as many, is cut after the first 2^h leaves
pub use Rattle.ats_tree.proofs.Trees.{of-cut}
-- shown leaves at strictly increasing positions rise from position 0 on
pub use Rattle.ats_tree.proofs.Positions.{rises-increasing}
-- strictly increasing positions below an end rise within the range from 0 to that end
pub use Rattle.ats_tree.proofs.Positions.{within-increasing}
-- the tree of part of a list is cut as a tree is, and the tree of one of its leaves is that leaf
pub use Rattle.ats_tree.proofs.RootLemmas.{part-tree-cut}
pub use Rattle.ats_tree.proofs.TurnLemmas.{part-leaf}
-- the tree of part of the places is cut as a tree is
pub use Rattle.ats_tree.proofs.Parts.{places-cut}
-- a tree of one place or more has a leaf
pub use Rattle.ats_tree.proofs.Parts.{HasLeaf, has_leaf-of}
-- a tree of places is bare if and only if each is free
pub use Rattle.ats_tree.proofs.Trees.{bare-of}
-- the tree of one place with a shown leaf is that leaf
pub use Rattle.ats_tree.proofs.Parts.{leaf-tree}
-- a tree of places is not bare if the first shown leaf is at one of them
pub use Rattle.ats_tree.proofs.Parts.{whole-shows}
-- the list of n places of a tree from any position on has length n
pub use Rattle.ats_tree.proofs.ShownPlaces.{length-places}
-- the two strings of the difference have equal digests under H
pub use Rattle.ats_tree.proofs.Differences.{Collides}
-- the first difference of two joined runs of strings is that of the first run, else of the second
pub use Rattle.ats_tree.proofs.Differences.{difference-append}
-- if the first difference of strings has equal digests, or there is none, it is the first collision
pub use Rattle.ats_tree.proofs.Differences.{difference-collides}
-- what is known of strings unless the first difference collides is known after moving their places
pub use Rattle.ats_tree.proofs.Differences.{known-moved}
-- the first of two optional differences if it is there, and the second otherwise
pub use Rattle.ats_tree.proofs.Differences.{or_else}
-- what strings show, unless the first of them that differs from ours has an equal digest: of one string, of two runs, of a
-- run for each element of a list, of a run whose places are moved, and what follows from what a run shows
pub use Rattle.ats_tree.proofs.Binds.{Binds, binds-one, binds-both, binds-all, binds-moved, binds-weaker}
-- the two strings differ and have equal digests
pub use Rattle.ats_tree.proofs.Collisions.{AreColliding}
-- the first collision of strings is two different strings with equal digests
pub use Rattle.ats_tree.proofs.Collisions.{found-collides}
-- a collision that is there is not none
pub use Rattle.ats_tree.proofs.Collisions.{none_some}
-- two equal non-empty lists have equal first elements and equal rests
pub use Rattle.ats_tree.proofs.Joined.{first_and_rest}
-- equal bytes that begin with 4-byte numbers below 2^32 have equal numbers and equal rests
pub use Rattle.ats_tree.proofs.Joined.{numbered}
-- two equal joins whose first parts have equal lengths have equal first and second parts
pub use Rattle.ats_tree.proofs.Joined.{parted}
-- two numbers below 2^16 with equal 2-byte encodings are equal
pub use Rattle.ats_tree.proofs.Joined.{same_2}
-- shown leaves that rebuild a tree's root are the tree's own, or the first difference is a collision
pub use Rattle.ats_tree.proofs.Bound.{bound_to}
-- a node with a string in a tree of at most 2^h leaves is at most h deep
pub use Rattle.ats_tree.proofs.NodeLemmas.{node-ours}
-- the path of `depth` turns has length `depth`
pub use Rattle.ats_tree.proofs.NodeLemmas.{length-path_of}
-- a node is where its two numbers lead
pub use Rattle.ats_tree.proofs.NodeLemmas.{numbers-lead}
-- a depth and turns below 2^depth are the two numbers of the node to which they lead
pub use Rattle.ats_tree.proofs.NodeLemmas.{numbers-back}
-- leaves shown at rising positions of a tree and its elided digests rebuild the root
pub use Rattle.ats_tree.proofs.LawLemmas.{elided-rebuilds}
-- a tree with no leaf has no string at any path
pub use Rattle.ats_tree.proofs.TurnLemmas.{string-none}
-- the string at a node of the tree of some leaves of a list: at its root, none below a leaf, and one turn further down
pub use Rattle.ats_tree.proofs.TurnLemmas.{string-leaf, string-node, string-past, string-left, string-right}
-- a string that differs from our own at its place and has an equal digest is found as a collision
pub use Rattle.ats_tree.proofs.Clashes.{collides-is}
-- a string that equals our own at its place, or has another digest, is not found as a collision
pub use Rattle.ats_tree.proofs.Clashes.{collides-not}
-- the first collision of two joined runs of strings is that of the first run, else of the second
pub use Rattle.ats_tree.proofs.Clashes.{collision-append}
-- the first collision of strings with moved places is their first collision with its place moved
pub use Rattle.ats_tree.proofs.Clashes.{moved_collision, collision-moved}
-- a string before others, of which the first collision is that of some of them, else another one
pub use Rattle.ats_tree.proofs.Clashes.{collision_or-or}
-- sources of own strings with the same string at each place give the same first collision
pub use Rattle.ats_tree.proofs.Clashes.{collision-alike}
-- a collision is with our own string at its place
pub use Rattle.ats_tree.proofs.Clashes.{collision-own}
-- strings that do not differ from our own at their places have no collision
pub use Rattle.ats_tree.proofs.OwnStrings.{own-none}
-- the strings hashed in rebuilding from a tree's own leaves and elided digests are the tree's own
pub use Rattle.ats_tree.proofs.OwnStrings.{own-strings}
-- the strings hashed in rebuilding from what is shown of a tree, if that is the tree's own, are the tree's own
pub use Rattle.ats_tree.proofs.OwnStrings.{own-shown}
-- a tree of n leaves has 2n - 1 kept digests if n is at least 1
pub use Rattle.ats_tree.proofs.KeptLemmas.{length-kept}
-- what is in front of a list that is in front of another is in front of that one
pub use Rattle.ats_tree.proofs.KeptLemmas.{front-front}
-- kept digests have 32 bytes each and the number of a tree's nodes, and the first is that of the tree
pub use Rattle.ats_tree.proofs.KeptLemmas.{sized-kept, is_node_list, kept-first}
-- places from b on are the same if only the shown leaves from b on are left
pub use Rattle.ats_tree.proofs.ShownPlaces.{places-from}
-- the shown leaves from c on, of those from b on, are those from c on
pub use Rattle.ats_tree.proofs.ShownPlaces.{from-from}
-- of shown leaves that rise, those from b on rise from b
pub use Rattle.ats_tree.proofs.ShownPlaces.{rises-from}
-- what holds of all shown leaves holds of those from b on
pub use Rattle.ats_tree.proofs.ShownPlaces.{All-from}
-- all shown leaves are left if they rise from b
pub use Rattle.ats_tree.proofs.ShownPlaces.{from-all}
-- a rebuilt digest of a part binds the leaves shown there, unless the first difference collides
pub use Rattle.ats_tree.proofs.ShownParts.{ShowsOwn, part-bound}
-- sources of own strings with the same string at each place give the same first difference
pub use Rattle.ats_tree.proofs.ShownParts.{difference-alike}
-- the digest of a list, and a rebuilt digest, has 32 bytes
pub use Rattle.ats_tree.proofs.ShownParts.{length-mth, length-rebuilt}
-- elided digests have 32 bytes
pub use Rattle.ats_tree.proofs.ShownParts.{elided-sized}
-- the nodes of a part of at most 2^h places are at most h deep
pub use Rattle.ats_tree.proofs.ShownParts.{part-shallow}
-- the first places hold leaves, and the others none
pub use Rattle.ats_tree.proofs.ShownParts.{IsFront, front-nil}
-- a part that is all shown needs no digest; one of at most 2^h places with its first ones shown needs at most h
pub use Rattle.ats_tree.proofs.ShownParts.{full-need, front-need}
-- the first difference of strings whose places are moved is their first difference with its place moved
pub use Rattle.ats_tree.proofs.Differences.{moved_difference, difference-moved, both-parts}
-- a shown leaf is found at its position
pub use Rattle.ats_tree.proofs.Bound.{own_place}
-- a path that is cut from a number of its own length is that path
pub use Rattle.ats_tree.proofs.NodeLemmas.{length-path_of, number_of-below, number_of-path_of, same_path, node-some}
-- the tree of a part has the shape of the tree of as many leaves
pub use Rattle.ats_tree.proofs.ShownParts.{part-shape}
-- with its elided digests first, a tree has the digest and the strings of the tree whose leaves it shows
pub use Rattle.ats_tree.proofs.ShownParts.{elided-first, elided-first-own}
-- leaves of a list that are shown in a part agree with the leaves there, and it needs as many digests as are elided
pub use Rattle.ats_tree.proofs.ShownParts.{part-own, part-elided}
-- the positions of the shown leaves at given positions
pub use Rattle.ats_tree.proofs.KeptElided.{place-of}
